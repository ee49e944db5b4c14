use Rattle.batch.proofs.Copying.{Copying}
use Rattle.batch.proofs.inner.copy.Given as goal

abbrev pub invariant-loop-i : goal.invariant-loop-i
invariant-loop-i l = Copying l.entries l.initial.out l.out l.i
