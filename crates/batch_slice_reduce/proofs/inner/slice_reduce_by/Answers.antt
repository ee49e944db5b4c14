use mathlib.Core.Path.{refl}
use native.Mathlib.Omega.{arith}
use mir.Facts.{to_z-of_z}
use mir.Syntax.{w64}
use mir.Val.{to_z, of_z}
use Rattle.batch_keys.proofs.Blocks.{kept-start}
use Rattle.reduce.proofs.Intervals.{filling_start, filling_next}
use Rattle.batch_intervals.proofs.Slices.{item-asked}
use Rattle.batch_slice_reduce.proofs.Reducing.{item_reduced, reductions-many, reduced_end}
use borrow.Author.Rules.{rules}
use Rattle.batch_slice_reduce.proofs.inner.slice_reduce_by.Goals as goal

pub loop-i-init : goal.loop-i-init
loop-i-init c = (filling_start _ _ _, kept-start (λ t. (c.requires.2 t).room) (λ t. (c.requires.2 t).few), refl)

pub reduce_slice-reduction-requires : goal.reduce_slice-reduction-requires
reduce_slice-reduction-requires c =
    item-asked c.requires.0.intervals c.loop-i-test.true refl refl refl c.find_next-at.ensures.0 c.part_at.ensures c.part_at-in-loop-i.ensures

pub loop-i-preserved : goal.loop-i-preserved
loop-i-preserved c =
    let q = c.requires.0 in
    let m = reductions-many q.intervals c.args.code (to_z w64 (of_z w64 c.args.ddof)) in (
      filling_next c.loop-i.invariant.0 (rw m c.loop-i-test.true) (rw m q.room_kinds) (rw m q.room_bits)
          _ (item_reduced q.intervals c.loop-i-test.true (search rules) (search rules)
          refl c.find_next-at.ensures.0 c.part_at.ensures c.part_at-in-loop-i.ensures c.args.code
          _ c.reduce_slice-reduction.ensures.0) c.kind.ensures c.bits.ensures,
      c.find_next-at.ensures.1,
      search rules,
    )

pub returns : goal.returns
returns c = rw (to_z-of_z c.ranges.ddof) at (reduced_end c.requires.0.intervals _ _ c.loop-i.invariant.0 (omega arith))
