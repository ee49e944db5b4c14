use mathlib.Core.Path.{refl}
use native.Mathlib.Omega.{arith}
use mir.Facts.{to_z-of_z}
use Rattle.batch_zip_with.proofs.Zipping.{zipping_start, zipping-end, zipping-places, zipping-fits, zipping-used, zipping-next}
use borrow.Author.Rules.{rules}
use Rattle.batch_zip_with.proofs.inner.zip_pairs.Goals as goal

pub loop-next-init : goal.loop-next-init
loop-next-init c = (zipping_start _ _ _ _ _ _ c.requires.0 c.next_pair-next.ensures.0, c.next_pair-next.ensures.1, search rules)

pub offset_bounds-out_keys-n : goal.offset_bounds-out_keys-n
offset_bounds-out_keys-n c =
    omega (arith, zipping-places _ _ _ _ _ _ c.requires.0 c.loop-next.invariant.0 c.in-Some.is, c.well_formed)

pub bounds-out_keys-n : goal.bounds-out_keys-n
bounds-out_keys-n c = (zipping-places _ _ _ _ _ _ c.requires.0 c.loop-next.invariant.0 c.in-Some.is).0

pub zip_with-used-requires : goal.zip_with-used-requires
zip_with-used-requires c =
    zipping-fits _ _ _ _ _ _ c.requires.0 c.loop-next.invariant.0 c.in-Some.is c.part_at.ensures
    c.part_at-in-Some.ensures c.part_at-in-Some-2.ensures c.part_at-in-Some-3.ensures

pub overflow_add-used : goal.overflow_add-used
overflow_add-used c =
    let used = zipping-used _ _ _ _ _ _ c.requires.0 c.loop-next.invariant.0 c.in-Some.is c.part_at.ensures
    c.part_at-in-Some.ensures c.part_at-in-Some-2.ensures c.part_at-in-Some-3.ensures c.zip_with-used.ensures in
    omega (arith, c.well_formed, used)

pub overflow_add-n : goal.overflow_add-n
overflow_add-n c =
    omega (arith, zipping-places _ _ _ _ _ _ c.requires.0 c.loop-next.invariant.0 c.in-Some.is, c.well_formed)

pub offset_bounds-out_offsets-n : goal.offset_bounds-out_offsets-n
offset_bounds-out_offsets-n c =
    omega (arith, zipping-places _ _ _ _ _ _ c.requires.0 c.loop-next.invariant.0 c.in-Some.is, c.well_formed)

pub bounds-out_offsets-n : goal.bounds-out_offsets-n
bounds-out_offsets-n c = (zipping-places _ _ _ _ _ _ c.requires.0 c.loop-next.invariant.0 c.in-Some.is).1

pub loop-next-preserved : goal.loop-next-preserved
loop-next-preserved c = (
  zipping-next _ _ _ _ _ _ c.requires.0 c.loop-next.invariant.0 c.in-Some.is c.part_at.ensures
      c.part_at-in-Some.ensures c.part_at-in-Some-2.ensures c.part_at-in-Some-3.ensures c.zip_with-used.ensures refl refl
      c.next_pair-next-in-Some.ensures.0,
  c.next_pair-next-in-Some.ensures.1,
  search rules,
)

pub returns : goal.returns
returns c =
    rw (to_z-of_z c.ranges.fill_a, to_z-of_z c.ranges.fill_b)
    at (zipping-end _ _ _ _ _ _ c.requires.0 c.loop-next.invariant.0 c.in_default.is)
