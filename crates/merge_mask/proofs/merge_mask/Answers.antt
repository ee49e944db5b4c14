use mathlib.Core.Path.{sym}
use Rattle.column.proofs.Promised.{runs-written, runs-refused}
use Rattle.merge_mask.specs.Calls.{merge_mask}
use Rattle.merge_mask.proofs.Yes.{merge_mask-yes}
use Rattle.merge_mask.proofs.merge_mask.Goals as goal

pub merge_mask-n-requires : goal.merge_mask-n-requires
merge_mask-n-requires c = merge_mask-yes _ _ _ _ _ _ (sym c.in_ok-merge_mask_asks.ensures)

pub returns : goal.returns
unfolding merge_mask
returns c = runs-written _ (sym c.in_ok-merge_mask_asks.ensures) c.merge_mask-n.ensures

pub returns-in_err-merge_mask_asks : goal.returns-in_err-merge_mask_asks
unfolding merge_mask
returns-in_err-merge_mask_asks c = runs-refused _ _ _ c.from_residual.ensures.1 c.in_err-merge_mask_asks.ensures
