use mathlib.Core.Path.{sym}
use Rattle.merge_plan.specs.Calls.{merge_plan}
use Rattle.merge_plan.proofs.Asks.{merge_plan-yes}
use Rattle.merge_plan.proofs.Promised.{groups-written, groups-refused}
use Rattle.merge_plan.proofs.merge_plan.Goals as goal

pub merge_plan-n-requires : goal.merge_plan-n-requires
merge_plan-n-requires c = merge_plan-yes _ _ _ _ (sym c.in_ok-merge_plan_asks.ensures)

pub returns : goal.returns
unfolding merge_plan
returns c = groups-written _ (sym c.in_ok-merge_plan_asks.ensures) c.merge_plan-n.ensures

pub returns-in_err-merge_plan_asks : goal.returns-in_err-merge_plan_asks
unfolding merge_plan
returns-in_err-merge_plan_asks c = groups-refused _ _ _ c.from_residual.ensures.1 c.in_err-merge_plan_asks.ensures
