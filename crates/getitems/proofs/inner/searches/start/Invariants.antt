use Rattle.getitems.proofs.Searches.{Beginning}
use Rattle.getitems.proofs.inner.searches.start.Given as goal

abbrev pub invariant-loop-k : goal.invariant-loop-k
invariant-loop-k l = Beginning l.ends l.positions l.from l.back l.places l.lows l.k
