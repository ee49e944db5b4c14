use Prim.Native.Nat.{◌+◌, ◌-◌}
use lib.ListN.{length}
use Rattle.equals.proofs.Comparing.{Compared}
use Rattle.equals.proofs.inner.equals.Given as goal

abbrev pub invariant-loop-here : goal.invariant-loop-here
invariant-loop-here l = Compared l.a_ends l.a_values l.b_ends l.b_values l.here

abbrev pub decreases-loop-here : goal.decreases-loop-here
decreases-loop-here l = length l.a_ends + length l.b_ends - (l.here.a.index + l.here.b.index)
