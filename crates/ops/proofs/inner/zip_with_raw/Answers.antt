use mathlib.Core.Path.{◌∙◌}
use mir.Facts.{to_z-of_z}
use Rattle.num.proofs.Bits.{back}
use Rattle.plan.proofs.Step.{more_left, none_more}
use Rattle.ops.proofs.Zips.{listed_start, listed_next, listed-end}
use borrow.Author.Rules.{rules}
use Rattle.ops.proofs.inner.zip_with_raw.Goals as goal

pub loop-here-init : goal.loop-here-init
loop-here-init c = listed_start _ _ _ _ _ _ _ _ _ c.start-here.ensures

pub loop-here-preserved : goal.loop-here-preserved
loop-here-preserved c =
    let (_, left) = more_left c.loop-here.invariant.walk.standing c.more.ensures c.loop-here-test.true in
    let value = back _ c.shown_at-value.type_inv ∙ c.shown_at-value.ensures in
    listed_next _ _ _ _ _ _ _ _ _ c.requires c.loop-here.invariant c.next-segment.ensures (search rules) value left

pub returns : goal.returns
returns c =
    let k = c.loop-here.invariant in
    let spent = none_more k.walk.standing c.more.ensures c.loop-here-test.false in
    rw (to_z-of_z c.ranges.fill_a, to_z-of_z c.ranges.fill_b) at (listed-end _ _ _ _ _ _ _ _ _ c.requires k spent)
