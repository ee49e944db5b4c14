use mathlib.Core.Path.{sym}
use Rattle.plan.proofs.Asks.{plan-yes}
use Rattle.plan.proofs.Planning.{plan-written, plan-refused}
use Rattle.plan.specs.Calls.{plan}
use Rattle.plan.proofs.plan.Goals as goal

pub plan-n-requires : goal.plan-n-requires
plan-n-requires c = plan-yes _ _ _ _ _ (sym c.in_ok-plan_asks.ensures)

pub returns : goal.returns
unfolding plan
returns c = plan-written _ (sym c.in_ok-plan_asks.ensures) c.plan-n.ensures

pub returns-in_err-plan_asks : goal.returns-in_err-plan_asks
unfolding plan
returns-in_err-plan_asks c = plan-refused _ _ _ c.from_residual.ensures.1 c.in_err-plan_asks.ensures
