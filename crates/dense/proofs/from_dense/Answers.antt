use mathlib.Core.Path.{sym}
use Rattle.column.proofs.Promised.{runs-written, runs-refused}
use Rattle.column.proofs.Told.{both_told}
use Rattle.dense.specs.Calls.{from_dense}
use Rattle.dense.proofs.from_dense.Goals as goal

pub from_dense-n-requires : goal.from_dense-n-requires
from_dense-n-requires c = both_told _ _ _ (sym c.in_ok-ask_both.ensures)

pub returns : goal.returns
unfolding from_dense
returns c = runs-written _ (sym c.in_ok-ask_both.ensures) c.from_dense-n.ensures

pub returns-in_err-ask_both : goal.returns-in_err-ask_both
unfolding from_dense
returns-in_err-ask_both c = runs-refused _ _ _ c.from_residual.ensures.1 c.in_err-ask_both.ensures
