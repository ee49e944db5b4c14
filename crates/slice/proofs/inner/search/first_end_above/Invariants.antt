use Rattle.slice.specs.Workers.{Halving}
use Rattle.slice.proofs.inner.search.first_end_above.Given as goal

abbrev pub invariant-loop-size : goal.invariant-loop-size
invariant-loop-size l = Halving l.place l.ends l.low l.size

abbrev pub decreases-loop-size : goal.decreases-loop-size
decreases-loop-size l = l.size
