use mathlib.Core.Path.{◌∙◌}
use native.Mathlib.Omega.{arith}
use mir.Facts.{to_z-of_z}
use Rattle.num.proofs.Bits.{back}
use Rattle.plan.proofs.Walking.{walk-moves}
use Rattle.plan.proofs.Step.{more_left, none_more}
use Rattle.ops.proofs.Zips.{zipped-none, zipped-start, zipped-end, zipped-room, zipped-last, zipped-more}
use borrow.Author.Rules.{rules}
use Rattle.ops.proofs.inner.zip_with.Goals as goal

pub returns-then-total-eq0 : goal.returns-then-total-eq0
returns-then-total-eq0 c = zipped-none _ _ _ _ _ _ _ _ _ c.requires c.if-total-eq0.true

pub loop-here-init : goal.loop-here-init
loop-here-init c = zipped-start _ _ _ _ _ _ _ _ _ c.requires c.start-here.ensures (back _ c.shown_at-first.type_inv ∙ c.shown_at-first.ensures)

pub push_merged-writer-requires : goal.push_merged-writer-requires
push_merged-writer-requires c =
    let (_, left) = more_left c.loop-here.invariant.walk.standing c.more.ensures c.loop-here-test.true in
    zipped-room _ _ _ _ _ _ _ _ _ c.requires c.loop-here.invariant (back _ c.shown_at-value.type_inv ∙ c.shown_at-value.ensures) left (omega (arith, c.well_formed))

pub loop-here-smaller : goal.loop-here-smaller
loop-here-smaller c =
    let walk = c.loop-here.invariant.walk in
    omega (arith, walk-moves _ _ walk c.next-segment.ensures, (more_left walk.standing c.more.ensures c.loop-here-test.true).1)

pub loop-here-preserved : goal.loop-here-preserved
loop-here-preserved c =
    let (_, left) = more_left c.loop-here.invariant.walk.standing c.more.ensures c.loop-here-test.true in
    let value = back _ c.shown_at-value.type_inv ∙ c.shown_at-value.ensures in
    zipped-more _ _ _ _ _ _ _ _ _ c.requires c.loop-here.invariant value left c.next-segment.ensures (search rules) c.push_merged-writer.ensures

pub overflow_add-result : goal.overflow_add-result
overflow_add-result c = omega (arith, zipped-last _ _ _ _ _ _ _ _ _ c.loop-here.invariant, c.well_formed)

pub returns : goal.returns
returns c =
    let k = c.loop-here.invariant in
    let spent = none_more k.walk.standing c.more.ensures c.loop-here-test.false in
    rw (to_z-of_z c.ranges.fill_a, to_z-of_z c.ranges.fill_b) at (zipped-end _ _ _ _ _ _ _ _ _ c.requires k spent (omega (arith, c.if-total-eq0.false)))
