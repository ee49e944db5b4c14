use mathlib.Core.Path.{refl}
use native.Mathlib.Omega.{arith}
use Rattle.batch_concat.proofs.Writing.{write_start, write-within, write-b, write-joinable, write-used, write_next, write-end}
use borrow.Author.Rules.{rules}
use Rattle.batch_concat.proofs.inner.concat_keys.Goals as goal

pub loop-next-init : goal.loop-next-init
loop-next-init c = (write_start _ _ _ _ _ _ _ _ c.requires.0 c.next_key-next.ensures.0, c.next_key-next.ensures.1, refl)

pub offset_bounds-out_keys-n : goal.offset_bounds-out_keys-n
offset_bounds-out_keys-n c = omega (arith, write-within _ _ _ _ _ _ _ _ c.requires.0 c.loop-next.invariant.0 c.in-Some.is, c.well_formed)

pub bounds-out_keys-n : goal.bounds-out_keys-n
bounds-out_keys-n c = (write-within _ _ _ _ _ _ _ _ c.requires.0 c.loop-next.invariant.0 c.in-Some.is).0

pub concat_two-used-requires : goal.concat_two-used-requires
concat_two-used-requires c =
    write-joinable _ _ _ _ _ _ _ _ c.requires.0 c.loop-next.invariant.0 c.in-Some.is c.part_at.ensures c.part_at-in-Some.ensures
    c.part_at-in-Some-2.ensures c.part_at-in-Some-3.ensures

pub overflow_add-used : goal.overflow_add-used
overflow_add-used c =
    let used = write-used _ _ _ _ _ _ _ _ c.requires.0 c.loop-next.invariant.0 c.in-Some.is c.part_at.ensures
    c.part_at-in-Some.ensures c.part_at-in-Some-2.ensures c.part_at-in-Some-3.ensures c.concat_two-used.ensures in
    omega (arith, used, c.well_formed)

pub overflow_add-n : goal.overflow_add-n
overflow_add-n c = omega (arith, write-within _ _ _ _ _ _ _ _ c.requires.0 c.loop-next.invariant.0 c.in-Some.is, c.well_formed)

pub offset_bounds-out_offsets-n : goal.offset_bounds-out_offsets-n
offset_bounds-out_offsets-n c = omega (arith, write-within _ _ _ _ _ _ _ _ c.requires.0 c.loop-next.invariant.0 c.in-Some.is, c.well_formed)

pub bounds-out_offsets-n : goal.bounds-out_offsets-n
bounds-out_offsets-n c = (write-within _ _ _ _ _ _ _ _ c.requires.0 c.loop-next.invariant.0 c.in-Some.is).1

pub overflow_add-b : goal.overflow_add-b
overflow_add-b c = omega (arith, write-b _ _ _ _ _ _ _ _ c.requires.0 c.loop-next.invariant.0 c.in-Some.is, c.well_formed)

pub loop-next-preserved : goal.loop-next-preserved
loop-next-preserved c =
    let k = c.next_key-next-in-Some.ensures in (
      write_next _ _ _ _ _ _ _ _ c.requires.0 c.loop-next.invariant.0 c.in-Some.is c.part_at.ensures c.part_at-in-Some.ensures
          c.part_at-in-Some-2.ensures c.part_at-in-Some-3.ensures c.concat_two-used.ensures k.0,
      k.1,
      search rules,
    )

pub returns : goal.returns
returns c = write-end _ _ _ _ _ _ _ _ c.requires.0 c.loop-next.invariant.0 c.in_default.is
