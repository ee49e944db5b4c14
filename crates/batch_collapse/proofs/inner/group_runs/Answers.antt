use native.Mathlib.Omega.{arith}
use Rattle.batch_collapse.proofs.Columns.{new_many, all_runs, part-runs}
use Rattle.batch_collapse.proofs.Members.{summing_start, summing-room, summing-next, summing_end}
use Rattle.batch_collapse.proofs.inner.group_runs.Goals as goal

pub loop-member-init : goal.loop-member-init
loop-member-init c = (
  summing_start _ _ (new_many _ _ _ _ _ c.requires.0) _ c.requires.1 c.requires.2 c.next_member-member.ensures.0
      (part-runs _ _ _ _ _ c.requires.0 _ c.part_at-runs.ensures),
  c.next_member-member.ensures.1,
)

pub overflow_add-runs : goal.overflow_add-runs
overflow_add-runs c =
    let part = part-runs _ _ _ _ _ c.requires.0 _ c.part_at.ensures in
    let room = summing-room _ _ (new_many _ _ _ _ _ c.requires.0) _ _ c.loop-member.invariant.0 c.loop-member-test.true part in
    omega (arith, room, all_runs _ _ _ _ _ c.requires.0)

pub loop-member-preserved : goal.loop-member-preserved
loop-member-preserved c = (
  summing-next _ _ (new_many _ _ _ _ _ c.requires.0) _ _ c.loop-member.invariant.0 c.loop-member-test.true
      (part-runs _ _ _ _ _ c.requires.0 _ c.part_at.ensures) c.next_member-member-in-loop-member.ensures.0,
  c.next_member-member-in-loop-member.ensures.1,
)

pub returns : goal.returns
returns c = summing_end _ _ (new_many _ _ _ _ _ c.requires.0) _ _ c.loop-member.invariant.0 c.loop-member-test.false
