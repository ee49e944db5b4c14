use Rattle.batch_collapse.proofs.Together.{level_end}
use Rattle.batch_collapse.proofs.inner.never_fall.Goals as goal

pub returns : goal.returns
returns c = λ e. level_end _ _ c.loop-i.invariant c.loop-i-test.false
