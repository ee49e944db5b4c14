use mir.Facts.{to_z-of_z}
use Rattle.batch_collapse.proofs.Folding.{Part, part_read, first-scratch, fold_start, fold-able, fold_more, fold_end}
use Rattle.batch_collapse.proofs.inner.fold_group.Goals as goal

pub merged-count-requires : goal.merged-count-requires
merged-count-requires c =
    let first : (let a = c.args in
    Part a.keys.now a.offsets.now a.ends.now a.values.now a.group.first.at c.part_at.result.now c.part_at-2.result.now) = part_read _ _ _ _ _ c.requires.0
    c.args.group.first.at c.part_at.ensures
    c.part_at-2.ensures in
    first-scratch _ _ _ _ _ _ c.requires.0 c.requires.1 c.next_member-member.ensures.0 (first)

pub loop-member-init : goal.loop-member-init
loop-member-init c =
    let first : (let a = c.args in
    Part a.keys.now a.offsets.now a.ends.now a.values.now a.group.first.at c.part_at.result.now c.part_at-2.result.now) = part_read _ _ _ _ _ c.requires.0
    c.args.group.first.at c.part_at.ensures
    c.part_at-2.ensures in
    let member = c.next_member-member.ensures in (
      fold_start _ _ _ _ _ _ _ _ c.requires.0 c.requires.1 member.0 (first)
          c.merged-count.ensures,
      member.1,
    )

pub fold_member-count-requires : goal.fold_member-count-requires
fold_member-count-requires c =
    let more : (let a = c.args in
    Part a.keys.now a.offsets.now a.ends.now a.values.now c.loop-member.member.at c.part_at-in-loop-member.result.now c.part_at-in-loop-member-2.result.now) = part_read _ _ _ _ _
    c.requires.0 c.loop-member.member.at c.part_at-in-loop-member.ensures c.part_at-in-loop-member-2.ensures in
    fold-able _ _ _ _ _ _ _ _
    c.requires.0 c.loop-member.invariant.0 c.loop-member-test.true (more)

pub loop-member-preserved : goal.loop-member-preserved
loop-member-preserved c =
    let more : (let a = c.args in
    Part a.keys.now a.offsets.now a.ends.now a.values.now c.loop-member.member.at c.part_at-in-loop-member.result.now c.part_at-in-loop-member-2.result.now) = part_read _ _ _ _ _
    c.requires.0 c.loop-member.member.at c.part_at-in-loop-member.ensures c.part_at-in-loop-member-2.ensures in (
      fold_more _ _ _ _ _ _ _ _
          c.requires.0 c.loop-member.invariant.0 c.loop-member-test.true (more) c.fold_member-count.ensures
          c.next_member-member-in-loop-member.ensures.0,
      c.next_member-member-in-loop-member.ensures.1,
    )

pub returns : goal.returns
returns c =
    let first : (let a = c.args in
    Part a.keys.now a.offsets.now a.ends.now a.values.now a.group.first.at c.part_at.result.now c.part_at-2.result.now) = part_read _ _ _ _ _ c.requires.0
    c.args.group.first.at c.part_at.ensures
    c.part_at-2.ensures in
    rw (to_z-of_z c.ranges.fill)
    at (fold_end _ _ _ _ _ _ _ _ c.requires.0 c.requires.1 c.next_member-member.ensures.0 (first) c.merged-count.ensures
    c.loop-member.invariant.0 c.loop-member-test.false)
