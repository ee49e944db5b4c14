use native.Mathlib.Omega.{arith}
use mir.Facts.{to_z-of_z}
use borrow.Author.Rules.{rules}
use Rattle.shift.proofs.Shifting.{first_inside, down_appendable, down-at, down-whole, down-room, down-kept, down-end}
use Rattle.shift.proofs.inner.shift_down.Goals as goal

pub bounds-values-first : goal.bounds-values-first
bounds-values-first c = omega (arith, first_inside c.requires c.first_end_above-first.ensures.1, c.requires.paired)

pub append_merged-writer-requires : goal.append_merged-writer-requires
append_merged-writer-requires c = down_appendable c.requires c.first_end_above-first.ensures.1 (search rules) c.part-left.ensures c.part-shown.ensures

pub overflow_add-result : goal.overflow_add-result
overflow_add-result c =
    let at = down-at c.requires c.first_end_above-first.ensures.1 (search rules) c.part-left.ensures c.part-shown.ensures c.append_merged-writer.ensures in
    omega (arith, at)

pub returns-then-by-eq0 : goal.returns-then-by-eq0
returns-then-by-eq0 c =
    down-whole c.requires c.first_end_above-first.ensures.1 (search rules) c.part-left.ensures c.part-shown.ensures c.append_merged-writer.ensures _ c.if-by-eq0.true

pub push_merged-end-requires : goal.push_merged-end-requires
push_merged-end-requires c =
    down-room c.requires c.first_end_above-first.ensures.1 (search rules) c.part-left.ensures c.part-shown.ensures c.append_merged-writer.ensures _
    (omega (arith, c.well_formed))

pub overflow_add-result-2 : goal.overflow_add-result-2
overflow_add-result-2 c =
    let at = down-kept c.requires c.first_end_above-first.ensures.1 (search rules) c.part-left.ensures c.part-shown.ensures c.append_merged-writer.ensures
    c.push_merged-end.ensures (omega (arith, c.well_formed)) in
    omega (arith, at)

pub returns : goal.returns
returns c =
    rw (to_z-of_z c.ranges.fill)
    at (down-end c.requires c.first_end_above-first.ensures.1 (search rules) c.part-left.ensures c.part-shown.ensures c.append_merged-writer.ensures
    (omega (arith, c.if-by-eq0.false)) c.push_merged-end.ensures)
