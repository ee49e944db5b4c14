use mathlib.Core.Path.{◌≡◌}
use Rattle.batch_index.proofs.Table.{Seeking}
use Rattle.batch_index.proofs.inner.table.put.Given as goal

abbrev pub invariant-loop-d : goal.invariant-loop-d
invariant-loop-d l = (l.table ≡ l.initial.table) × Seeking l.table l.keys l.key l.from l.x l._d
