use Rattle.batch_keys.proofs.Ascending.{halved-next, halved-found, halved_none}
use Rattle.batch_keys.proofs.inner.halve.Goals as goal

pub loop-size-preserved : goal.loop-size-preserved
loop-size-preserved c = halved-next _ _ c.requires c.loop-size.invariant c.loop-size-test.true c.low_after-low.ensures

pub returns-then-stands_at : goal.returns-then-stands_at
returns-then-stands_at c = halved-found _ _ c.requires c.loop-size.invariant c.loop-size-test.false c.stands_at.ensures c.if-stands_at.true

pub returns-else-stands_at : goal.returns-else-stands_at
returns-else-stands_at c = halved_none _ _ c.requires c.loop-size.invariant c.loop-size-test.false c.stands_at.ensures c.if-stands_at.false
