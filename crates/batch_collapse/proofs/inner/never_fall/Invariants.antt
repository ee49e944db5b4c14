use Rattle.batch_collapse.proofs.Together.{Level}
use Rattle.batch_collapse.proofs.inner.never_fall.Given as goal

abbrev pub invariant-loop-i : goal.invariant-loop-i
invariant-loop-i l = Level l.keys l.i
