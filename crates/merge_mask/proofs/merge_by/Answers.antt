use mathlib.Core.Path.{sym}
use Rattle.column.proofs.Promised.{runs-written, runs-refused}
use Rattle.merge_mask.specs.Calls.{merge_by}
use Rattle.merge_mask.proofs.Yes.{merge_by-yes}
use Rattle.merge_mask.proofs.merge_by.Goals as goal

pub merge_by-n-requires : goal.merge_by-n-requires
merge_by-n-requires c = merge_by-yes _ _ _ _ _ (sym c.in_ok-merge_by_asks.ensures)

pub returns : goal.returns
unfolding merge_by
returns c = runs-written _ (sym c.in_ok-merge_by_asks.ensures) c.merge_by-n.ensures

pub returns-in_err-merge_by_asks : goal.returns-in_err-merge_by_asks
unfolding merge_by
returns-in_err-merge_by_asks c = runs-refused _ _ _ c.from_residual.ensures.1 c.in_err-merge_by_asks.ensures
