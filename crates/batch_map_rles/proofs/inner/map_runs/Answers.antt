use mathlib.Core.Path.{◌≡◌}
use native.Mathlib.Omega.{arith}
use mir.Syntax.{w64}
use mir.Val.{to_z, of_z}
use Rattle.slice.proofs.Asks.{slice-filled}
use Rattle.batch_map_rles.specs.Calls.{shift_runs}
use Rattle.batch_map_rles.proofs.Mapping.{slice_touches}
use borrow.Author.Rules.{rules}
use Rattle.batch_map_rles.proofs.inner.map_runs.Goals as goal

pub slice-requires : goal.slice-requires
slice-requires c =
    let p = rw c.in-Slice.is at c.requires in
    slice_touches _ _ _ _ _ _ c.touched-touched.ensures p.0 p.1 (omega arith) (omega arith)

-- the numbers of a mapping as the locals hold them
pub returns-in-Shift : goal.returns-in-Shift
unfolding shift_runs
returns-in-Shift c =
    let distance-held : to_z w64 (of_z w64 c.in-Shift.distance) ≡ c.in-Shift.distance = search rules in
    let fill-held : to_z w64 (of_z w64 c.in-Shift.fill) ≡ c.in-Shift.fill = search rules in
    rw c.in-Shift.is (rw (distance-held, fill-held) at c.shift.ensures)

pub returns-in-Slice : goal.returns-in-Slice
returns-in-Slice c =
    let start-held : to_z w64 (of_z w64 c.in-Slice.start) ≡ c.in-Slice.start = search rules in
    let end-held : to_z w64 (of_z w64 c.in-Slice.end) ≡ c.in-Slice.end = search rules in
    let found = rw (start-held, end-held) at c.touched-touched.ensures in
    let p = rw c.in-Slice.is at c.requires in
    rw c.in-Slice.is (slice-filled _ _ _ _ found p.0 p.1 c.slice.ensures)
