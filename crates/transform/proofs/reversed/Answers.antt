use mathlib.Core.Path.{sym}
use Rattle.column.proofs.Promised.{runs-written, runs-refused}
use Rattle.column.proofs.Told.{sequence-told}
use Rattle.transform.specs.Calls.{reversed}
use Rattle.transform.proofs.reversed.Goals as goal

pub reversed-n-requires : goal.reversed-n-requires
reversed-n-requires c =
    let a = c.args in
    sequence-told a.ends.now a.values.now _ _ _ (sym c.in_ok-ask_sequence_into.ensures)

pub returns : goal.returns
unfolding reversed
returns c = runs-written _ (sym c.in_ok-ask_sequence_into.ensures) c.reversed-n.ensures

pub returns-in_err-ask_sequence_into : goal.returns-in_err-ask_sequence_into
unfolding reversed
returns-in_err-ask_sequence_into c = runs-refused _ _ _ c.from_residual.ensures.1 c.in_err-ask_sequence_into.ensures
