use Rattle.batch_index.proofs.Blocks.{entering_found, entering_next}
use Rattle.batch_index.proofs.inner.duplicates.enter_block.Goals as goal

pub returns-then-at-i : goal.returns-then-at-i
returns-then-at-i c =
    let pre = c.requires in
    entering_found _ pre.0 pre.2 _ _ _ c.loop-i-test.true c.loop-i.invariant c.enter.ensures
    c.if-at-i.true c.smaller_count.ensures

pub loop-i-preserved : goal.loop-i-preserved
loop-i-preserved c =
    let pre = c.requires in
    entering_next _ pre.0 pre.2 _ _ _ c.loop-i-test.true c.loop-i.invariant c.enter.ensures
    c.if-at-i.false pre.3 c.limit_after-limit.ensures.0 c.limit_after-limit.ensures.1
