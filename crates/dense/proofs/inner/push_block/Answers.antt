use native.Mathlib.Omega.{arith}
use mir.Syntax.{w64}
use mir.Facts.{to_z_pos}
use Rattle.dense.proofs.Encoding.{stretch-room, encoded_stretch}
use Rattle.dense.proofs.inner.push_block.Goals as goal

pub push_merged-requires : goal.push_merged-requires
push_merged-requires c =
    let s = c.requires in
    let q = s.1 in
    stretch-room q.written q.room_ends q.room_values (omega (arith, q.within)) _ s.0 q.within
    (c.all_equal.ensures c.if-all_equal.true) (omega arith)

pub returns-then-all_equal : goal.returns-then-all_equal
returns-then-all_equal c =
    let s = c.requires in
    let q = s.1 in
    encoded_stretch q.written q.room_ends q.room_values (omega (arith, q.within)) _ s.0 q.within
    (c.all_equal.ensures c.if-all_equal.true) c.push_merged.ensures (to_z_pos w64 (omega arith))
