use native.Mathlib.Omega.{arith}
use mir.Facts.{to_z-of_z}
use Rattle.batch_collapse.proofs.Folding.{Part, part_read, first_out, alone-filled}
use Rattle.batch_collapse.proofs.Restoring.{aside_room, back-room, group-filled}
use Rattle.batch_collapse.proofs.inner.collapse_group.Goals as goal

pub merged-requires : goal.merged-requires
merged-requires c =
    let first : (let a = c.args in
    Part a.keys.now a.offsets.now a.ends.now a.values.now a.group.first.at c.part_at.result.now c.part_at-then-second-new_keys.result.now) = part_read _ _ _ _ _ c.requires.0
    c.args.group.first.at c.part_at.ensures
    c.part_at-then-second-new_keys.ensures in
    first_out _ _ _ _ _ _ c.requires.0 c.requires.1 c.next_member-second.ensures.0 (first)

pub returns-then-second-new_keys : goal.returns-then-second-new_keys
returns-then-second-new_keys c =
    let first : (let a = c.args in
    Part a.keys.now a.offsets.now a.ends.now a.values.now a.group.first.at c.part_at.result.now c.part_at-then-second-new_keys.result.now) = part_read _ _ _ _ _ c.requires.0
    c.args.group.first.at c.part_at.ensures
    c.part_at-then-second-new_keys.ensures in
    alone-filled _ _ _ _ _ _ _ _ c.requires.0 c.requires.1
    c.next_member-second.ensures.0 (first) (omega (arith, c.if-second-new_keys.true))
    c.merged.ensures

pub put_aside-requires : goal.put_aside-requires
put_aside-requires c = (aside_room _ _ _ _ _ _ c.requires.0 c.requires.1 c.group_runs-runs.ensures).0

pub put_aside-requires-2 : goal.put_aside-requires-2
put_aside-requires-2 c = (aside_room _ _ _ _ _ _ c.requires.0 c.requires.1 c.group_runs-runs.ensures).1

pub put_back-requires : goal.put_back-requires
put_back-requires c =
    let r = (back-room _ _ _ _ _ _ c.requires.0 c.requires.1
    c.group_runs-runs.ensures c.put_aside.ensures c.put_aside-2.ensures
    _ _ c.fold_group-count.ensures).0 in
    (omega (arith, r.0), r.1, r.2)

pub put_back-requires-2 : goal.put_back-requires-2
put_back-requires-2 c =
    (back-room _ _ _ _ _ _ c.requires.0 c.requires.1
    c.group_runs-runs.ensures c.put_aside.ensures c.put_aside-2.ensures
    _ _ c.fold_group-count.ensures).1

pub returns : goal.returns
returns c =
    let filled = group-filled _ _ _ _ _ _ c.requires.0 c.requires.1
    c.group_runs-runs.ensures c.put_aside.ensures
    c.put_aside-2.ensures _ _ c.fold_group-count.ensures c.put_back.ensures c.put_back-2.ensures in
    rw (to_z-of_z c.ranges.fill) at filled
