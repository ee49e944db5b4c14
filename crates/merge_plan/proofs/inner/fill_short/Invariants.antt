use Prim.Native.Nat.{◌-◌}
use Rattle.merge_plan.proofs.Ids.{Filling}
use Rattle.merge_plan.proofs.inner.fill_short.Given as goal

abbrev pub invariant-loop-i : goal.invariant-loop-i
invariant-loop-i l = Filling l.initial.out l.out l.from l.limit l.id l.i

abbrev pub decreases-loop-i : goal.decreases-loop-i
decreases-loop-i l = l.limit - l.i
