use native.Mathlib.Omega.{arith}
use Rattle.merge_plan.proofs.Ids.{numbering_room, numbering_more, numbering_end}
use Rattle.merge_plan.proofs.inner.group_ids.Goals as goal

pub fill_group-requires : goal.fill_group-requires
fill_group-requires c = numbering_room c.loop-group.invariant c.requires.0 c.last_offset-limit.ensures c.requires.1 (omega arith)

pub loop-group-preserved : goal.loop-group-preserved
loop-group-preserved c =
    let fill = c.fill_group in
    numbering_more c.loop-group.invariant c.requires.0 c.last_offset-limit.ensures c.requires.1 (omega arith) fill.ensures fill.auto.out

pub returns : goal.returns
returns c = numbering_end c.loop-group.invariant c.requires.0 c.last_offset-limit.ensures c.requires.1 (omega arith)
