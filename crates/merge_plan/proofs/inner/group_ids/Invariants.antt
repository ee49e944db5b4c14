use Rattle.merge_plan.proofs.Ids.{Numbering}
use Rattle.merge_plan.proofs.inner.group_ids.Given as goal

abbrev pub invariant-loop-group : goal.invariant-loop-group
invariant-loop-group l = Numbering l.offsets l.initial.out_ids l.out_ids l.limit l.from l.group
