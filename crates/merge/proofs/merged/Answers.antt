use mathlib.Core.Path.{sym}
use Rattle.column.proofs.Promised.{runs-written, runs-refused}
use Rattle.column.proofs.Told.{sequence-told}
use Rattle.merge.specs.Calls.{merged}
use Rattle.merge.proofs.merged.Goals as goal

pub merged-n-requires : goal.merged-n-requires
merged-n-requires c =
    let a = c.args in
    sequence-told a.ends.now a.values.now _ _ _ (sym c.in_ok-ask_sequence_into.ensures)

pub returns : goal.returns
unfolding merged
returns c = runs-written _ (sym c.in_ok-ask_sequence_into.ensures) c.merged-n.ensures

pub returns-in_err-ask_sequence_into : goal.returns-in_err-ask_sequence_into
unfolding merged
returns-in_err-ask_sequence_into c = runs-refused _ _ _ c.from_residual.ensures.1 c.in_err-ask_sequence_into.ensures
