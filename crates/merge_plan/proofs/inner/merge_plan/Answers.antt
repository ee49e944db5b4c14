use mathlib.Core.Path.{◌≡◌, refl, ap, ◌∙◌}
use Prim.Native.Nat.{ℕ, ◌-◌}
use native.Mathlib.Omega.{arith}
use lib.IntN.{pos}
use lib.ListN.{length, get_or, length-set}
use Rattle.num.proofs.Bits.{back}
use Rattle.merge_mask.proofs.Groups.{groups-count}
use Rattle.merge_plan.proofs.Planning.{grouping_none, grouping_start, grouping_more, grouping_end}
use Rattle.merge_plan.proofs.inner.merge_plan.Goals as goal

pub returns-then-ends-eq0 : goal.returns-then-ends-eq0
returns-then-ends-eq0 c = grouping_none _ _ _ _ c.if-ends-eq0.true (omega (arith, c.requires.2))

pub loop-run-init : goal.loop-run-init
loop-run-init c = grouping_start _ _ _ c.args.out_offsets.now refl (omega (arith, c.requires.2))

pub loop-run-preserved : goal.loop-run-preserved
loop-run-preserved c =
    grouping_more c.loop-run.invariant (omega arith) c.requires.1 (rw length-set c.requires.2) c.write_group.ensures (back _ (omega arith))
    refl c.place_after-group.ensures

pub overflow_sub-result : goal.overflow_sub-result
overflow_sub-result c = omega (arith, c.mask_ones.ensures, groups-count c.args.ends.now c.args.mask.now c.requires.0)

pub returns : goal.returns
returns c =
    let n : length c.args.mask.now ≡ c.loop-run.run = omega arith in
    let last = ap (λ (k : ℕ). get_or c.args.ends.now k (pos 0)) n in
    grouping_end c.loop-run.invariant (omega arith) c.requires.1 (rw length-set c.requires.2) c.write_group-2.ensures (back _ (omega arith) ∙ last)
    (omega arith) _ refl (omega (arith, c.requires.0)) c.requires.0 (ap (λ (k : ℕ). length c.args.ends.now - k) c.mask_ones.ensures)
