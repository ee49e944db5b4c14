use Rattle.batch_index.proofs.Blocks.{Passing}
use Rattle.batch_index.proofs.inner.duplicates.first_duplicate.Given as goal

abbrev pub invariant-loop-from : goal.invariant-loop-from
invariant-loop-from l = Passing l.keys l.limit l.from
