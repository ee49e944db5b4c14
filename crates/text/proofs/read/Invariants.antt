use Rattle.std.proofs.Common.{length, ◌-◌, ◌≤◌}
use Rattle.text.proofs.read.Given as goal

abbrev pub invariant-loop-at : goal.invariant-loop-at
invariant-loop-at l = l.n ≤ length l.row

abbrev pub decreases-loop-at : goal.decreases-loop-at
decreases-loop-at l = length l.line - l.at
