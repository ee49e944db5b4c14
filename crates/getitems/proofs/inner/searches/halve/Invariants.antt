use Rattle.getitems.proofs.Searches.{Halved}
use Rattle.getitems.proofs.inner.searches.halve.Given as goal

abbrev pub invariant-loop-k : goal.invariant-loop-k
invariant-loop-k l = Halved l.ends l.places l.lows l.size l.k
