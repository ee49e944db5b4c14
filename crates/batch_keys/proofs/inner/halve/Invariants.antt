use Rattle.batch_keys.proofs.Ascending.{Halved}
use Rattle.batch_keys.proofs.inner.halve.Given as goal

abbrev pub invariant-loop-size : goal.invariant-loop-size
invariant-loop-size l = Halved l.key l.keys l.low l.size

abbrev pub decreases-loop-size : goal.decreases-loop-size
decreases-loop-size l = l.size
