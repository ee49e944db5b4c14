use Rattle.std.proofs.Common.{rules}
use Rattle.batch.proofs.Copying.{copy_start, copy_next}
use Rattle.batch.proofs.inner.copy.Goals as goal

pub loop-i-init : goal.loop-i-init
loop-i-init c = copy_start _ _

pub loop-i-preserved : goal.loop-i-preserved
loop-i-preserved c = copy_next c.loop-i.invariant c.loop-i-test.true c.requires (search rules)
