use native.Mathlib.Omega.{arith}
use Rattle.merge_plan.proofs.Ids.{put_one, filling_more}
use Rattle.merge_plan.proofs.inner.fill_long.Goals as goal

pub loop-i-preserved : goal.loop-i-preserved
loop-i-preserved c = filling_more c.loop-i.invariant c.requires.2 (put_one _ _ _ _ (omega arith) (omega arith))
