use Rattle.merge_plan.proofs.Planning.{Grouping}
use Rattle.merge_plan.proofs.inner.merge_plan.Given as goal

abbrev pub invariant-loop-run : goal.invariant-loop-run
invariant-loop-run l = Grouping l.ends l.mask l.initial.out_ends l.out_ends l.initial.out_offsets l.out_offsets l.group l.run
