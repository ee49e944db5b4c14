use Rattle.merge_plan.proofs.Ids.{Filling}
use Rattle.merge_plan.proofs.inner.fill_long.Given as goal

abbrev pub invariant-loop-i : goal.invariant-loop-i
invariant-loop-i l = Filling l.initial.out l.out l.from l.limit l.id l.i
