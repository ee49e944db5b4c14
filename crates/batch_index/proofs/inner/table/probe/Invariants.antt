use Rattle.batch_index.proofs.Table.{Probing}
use Rattle.batch_index.proofs.inner.table.probe.Given as goal

abbrev pub invariant-loop-d : goal.invariant-loop-d
invariant-loop-d l = Probing l.table l.keys l.key l.from l.x l._d
