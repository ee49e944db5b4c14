use mathlib.Core.Path.{sym}
use Rattle.column.proofs.Promised.{entries-written, entries-refused}
use Rattle.dense.specs.Calls.{to_dense}
use Rattle.dense.proofs.Yes.{to_dense-yes}
use Rattle.dense.proofs.to_dense.Goals as goal

pub to_dense-n-requires : goal.to_dense-n-requires
to_dense-n-requires c = to_dense-yes _ _ c.args.out.now (sym c.in_ok-to_dense_asks.ensures)

pub returns : goal.returns
unfolding to_dense
returns c = entries-written _ (sym c.in_ok-to_dense_asks.ensures) c.to_dense-n.ensures.0 c.to_dense-n.ensures.1

pub returns-in_err-to_dense_asks : goal.returns-in_err-to_dense_asks
unfolding to_dense
returns-in_err-to_dense_asks c = entries-refused _ _ _ c.from_residual.ensures.1 c.in_err-to_dense_asks.ensures
