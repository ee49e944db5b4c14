use Rattle.getitems.proofs.Searches.{beginning_end}
use Rattle.getitems.proofs.inner.searches.start.Goals as goal

pub returns : goal.returns
returns c = beginning_end c.loop-k.invariant c.loop-k-test.false
