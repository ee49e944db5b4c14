use native.Mathlib.Omega.{arith}
use mir.Syntax.{w64}
use mir.Facts.{to_z_pos}
use Rattle.num.proofs.Bits.{back}
use Rattle.dense.proofs.Encoding.{value_room, encoded_value}
use Rattle.dense.proofs.inner.push_values.Goals as goal

pub push_merged-next-requires : goal.push_merged-next-requires
push_merged-next-requires c =
    let s = c.requires in
    value_room c.loop-i.invariant s.room_ends s.room_values (omega arith) (omega arith) (back _ (omega arith)) (omega arith)

pub loop-i-preserved : goal.loop-i-preserved
loop-i-preserved c =
    let s = c.requires in
    encoded_value c.loop-i.invariant s.room_ends s.room_values (omega arith) (omega arith) (back _ (omega arith)) c.push_merged-next.ensures (to_z_pos w64 (omega arith))
