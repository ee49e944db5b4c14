use mir.Facts.{to_z-of_z}
use Rattle.batch_collapse.proofs.Folding.{member-room, member-folded}
use Rattle.batch_collapse.proofs.inner.fold_member.Goals as goal

pub slice_bounds-copy-end : goal.slice_bounds-copy-end
slice_bounds-copy-end c = (member-room _ _ c.requires c.zip_with-runs.ensures).2

pub slice_bounds-copy-end-2 : goal.slice_bounds-copy-end-2
slice_bounds-copy-end-2 c = (member-room _ _ c.requires c.zip_with-runs.ensures).0

pub copy-requires : goal.copy-requires
copy-requires c = (member-room _ _ c.requires c.zip_with-runs.ensures).4

pub slice_bounds-copy-end-3 : goal.slice_bounds-copy-end-3
slice_bounds-copy-end-3 c = (member-room _ _ c.requires c.zip_with-runs.ensures).3

pub slice_bounds-copy-end-4 : goal.slice_bounds-copy-end-4
slice_bounds-copy-end-4 c = (member-room _ _ c.requires c.zip_with-runs.ensures).1

pub copy-requires-2 : goal.copy-requires-2
copy-requires-2 c = (member-room _ _ c.requires c.zip_with-runs.ensures).5

pub returns : goal.returns
returns c = rw (to_z-of_z c.ranges.fill) at (member-folded _ _ c.requires c.zip_with-runs.ensures c.copy.ensures c.copy-2.ensures)
