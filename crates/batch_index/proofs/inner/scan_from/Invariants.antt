use Rattle.batch_index.specs.Workers.{Skipped}
use Rattle.batch_index.proofs.inner.scan_from.Given as goal

abbrev pub invariant-loop-i : goal.invariant-loop-i
invariant-loop-i l = Skipped l.key l.keys l.from l.i
