use native.Mathlib.Omega.{arith}
use Rattle.merge_plan.proofs.Ids.{put_one, put_block}
use Rattle.merge_plan.proofs.inner.put_ids.Goals as goal

pub returns-then-limit-at-lt-BLOCK : goal.returns-then-limit-at-lt-BLOCK
returns-then-limit-at-lt-BLOCK c = put_one _ _ _ _ c.requires.0 c.requires.1

pub returns : goal.returns
returns c = put_block _ _ _ _ (omega arith) c.requires.1
