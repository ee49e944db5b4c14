use mathlib.Core.Path.{sym}
use native.Mathlib.Omega.{arith}
use Rattle.many.specs.Calls.{plan_many}
use Rattle.many.proofs.Asks.{plan-many-yes, plan-many-segments, plan-many-written, plan-many-refused}
use Rattle.many.proofs.plan_many.Goals as goal

pub plan_many-planned-requires : goal.plan_many-planned-requires
plan_many-planned-requires c = plan-many-yes _ _ _ _ _ (sym (c.in_ok-plan_many_asks.ensures (omega arith)))

pub returns : goal.returns
unfolding plan_many
returns c =
    let yes = sym (c.in_ok-plan_many_asks.ensures (omega arith)) in
    plan-many-written yes (plan-many-segments _ _ _ _ yes) c.plan_many-planned.ensures

pub returns-in_err-plan_many_asks : goal.returns-in_err-plan_many_asks
unfolding plan_many
returns-in_err-plan_many_asks c = plan-many-refused _ _ _ c.from_residual.ensures.1 (c.in_err-plan_many_asks.ensures (omega arith))
