use Rattle.batch_keys.proofs.Ascending.{risen_next, risen_end}
use Rattle.batch_keys.proofs.ascends.Goals as goal

pub loop-i-preserved : goal.loop-i-preserved
loop-i-preserved c = risen_next _ _ c.loop-i.invariant c.loop-i-test.true c.if-key-before.false

pub returns : goal.returns
returns c = risen_end _ _ c.loop-i.invariant c.loop-i-test.false
