use mathlib.Core.Path.{sym}
use mir.Facts.{to_z-of_z}
use Rattle.column.proofs.Promised.{runs-written, runs-refused}
use Rattle.column.proofs.Told.{sequence-told}
use Rattle.shift.specs.Calls.{shift}
use Rattle.shift.proofs.shift.Goals as goal

pub shift-n-requires : goal.shift-n-requires
shift-n-requires c =
    let a = c.args in
    sequence-told a.ends.now a.values.now _ _ _ (sym c.in_ok-ask_sequence_into.ensures)

pub returns : goal.returns
unfolding shift
returns c =
    let f = c.ranges in
    let y = sym c.in_ok-ask_sequence_into.ensures in
    rw (to_z-of_z f.distance, to_z-of_z f.fill) at (runs-written _ y c.shift-n.ensures)

pub returns-in_err-ask_sequence_into : goal.returns-in_err-ask_sequence_into
unfolding shift
returns-in_err-ask_sequence_into c = runs-refused _ _ _ c.from_residual.ensures.1 c.in_err-ask_sequence_into.ensures
