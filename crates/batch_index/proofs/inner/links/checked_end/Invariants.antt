use Rattle.batch_index.specs.Workers.{looked_up, part, CheckedEnd}
use Rattle.batch_index.proofs.inner.links.checked_end.Given as goal

abbrev pub invariant-loop-i : goal.invariant-loop-i
invariant-loop-i l = CheckedEnd (looked_up l.table l.filter (part l.from l.to l.keys)) l.keys l.from l.to l.i
