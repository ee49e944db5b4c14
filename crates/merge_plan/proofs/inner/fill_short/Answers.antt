use Rattle.merge_plan.proofs.Ids.{filling_more, filling_end}
use Rattle.merge_plan.proofs.inner.fill_short.Goals as goal

pub loop-i-preserved : goal.loop-i-preserved
loop-i-preserved c = filling_more c.loop-i.invariant c.requires.2 c.put_ids-i.ensures

pub returns : goal.returns
returns c = filling_end c.loop-i.invariant c.requires.2 _ c.requires.0 c.loop-i-test.false
