use Rattle.batch_index.specs.Workers.{looked_up, part, Marks}
use Rattle.batch_index.proofs.inner.links.drop_begun.Given as goal

abbrev pub invariant-loop-i : goal.invariant-loop-i
invariant-loop-i l = Marks (looked_up l.table l.filter (part l.from l.to l.keys)) l.keys l.size l.i l.first
