use Prim.Native.Nat.{◌+◌, ◌-◌}
use lib.ListN.{length}
use Rattle.plan.proofs.Planning.{Planning}
use Rattle.plan.proofs.inner.plan.Given as goal

abbrev pub invariant-loop-here : goal.invariant-loop-here
invariant-loop-here l = Planning l.a l.b l.initial.out_ends l.initial.out_idx_a l.initial.out_idx_b l.out_ends l.out_idx_a l.out_idx_b l.n l.here

abbrev pub decreases-loop-here : goal.decreases-loop-here
decreases-loop-here l = length l.a + length l.b - (l.here.a.index + l.here.b.index)
