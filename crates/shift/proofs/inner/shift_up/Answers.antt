use native.Mathlib.Omega.{arith}
use mir.Facts.{to_z-of_z}
use borrow.Author.Rules.{rules}
use Rattle.shift.proofs.Shifting.{last_inside, up-appendable, up_room, up_kept, up-end}
use Rattle.shift.proofs.inner.shift_up.Goals as goal

pub append_merged-writer-requires : goal.append_merged-writer-requires
append_merged-writer-requires c =
    up-appendable c.requires.1 c.requires.0 c.first_end_above-last.ensures.1 c.part-whole.ensures c.part-shown.ensures _ c.push_merged-filled.ensures

pub bounds-values-last : goal.bounds-values-last
bounds-values-last c = omega (arith, last_inside c.requires.1 c.first_end_above-last.ensures.1, c.requires.1.paired)

pub push_merged-end-requires : goal.push_merged-end-requires
push_merged-end-requires c =
    up_room c.requires.1 c.requires.0 c.first_end_above-last.ensures.1 c.part-whole.ensures c.part-shown.ensures _ c.push_merged-filled.ensures
    c.append_merged-writer.ensures _ (omega (arith, c.well_formed))

pub overflow_add-result : goal.overflow_add-result
overflow_add-result c =
    let at = up_kept c.requires.1 c.requires.0 c.first_end_above-last.ensures.1 c.part-whole.ensures c.part-shown.ensures _ c.push_merged-filled.ensures
    c.append_merged-writer.ensures c.push_merged-end.ensures (omega (arith, c.well_formed)) in
    omega (arith, at)

pub returns : goal.returns
returns c =
    rw (to_z-of_z c.ranges.fill)
    at (up-end c.requires.1 c.requires.0 c.first_end_above-last.ensures.1 c.part-whole.ensures c.part-shown.ensures _ c.push_merged-filled.ensures
    c.append_merged-writer.ensures (search rules) c.push_merged-end.ensures)
