use Prim.Native.Nat.{◌≤◌}
use mathlib.Core.Path.{◌≡◌}
use lib.ListN.{length}
use Rattle.batch_index.proofs.inner.links.link_most.Given as goal

abbrev pub invariant-loop-size : goal.invariant-loop-size
invariant-loop-size l = (length l.first ≡ length l.initial.first) × (length l.next ≡ length l.initial.next) × (length l.positions ≡ length l.initial.positions) × (l.size ≤ l.size-2)

abbrev pub decreases-loop-size : goal.decreases-loop-size
decreases-loop-size l = l.size
