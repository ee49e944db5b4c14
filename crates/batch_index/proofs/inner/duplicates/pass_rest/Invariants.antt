use Rattle.batch_index.proofs.Blocks.{Resting}
use Rattle.batch_index.specs.Workers.{looked_up, part}
use Rattle.batch_index.proofs.inner.duplicates.pass_rest.Given as goal

abbrev pub invariant-loop-i : goal.invariant-loop-i
invariant-loop-i l = Resting l.keys (looked_up l.table l.filter (part l.from l.to l.keys)) l.from l.to l.i
