use Rattle.batch_index.specs.Workers.{looked_up, part}
use Rattle.batch_index.proofs.Blocks.{Entering}
use Rattle.batch_index.proofs.inner.duplicates.enter_block.Given as goal

abbrev pub invariant-loop-i : goal.invariant-loop-i
invariant-loop-i l =
    Entering l.keys (looked_up l.table l.filter (part l.from l.to l.keys)) l.from l.to l.limit-2 l.limit l.i
