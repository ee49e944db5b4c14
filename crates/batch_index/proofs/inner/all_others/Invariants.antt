use Rattle.batch_index.proofs.Lowest.{Counted}
use Rattle.batch_index.proofs.inner.all_others.Given as goal

abbrev pub invariant-loop-i : goal.invariant-loop-i
invariant-loop-i l = Counted l.key l.keys l.from l.to l.count l.i
