use Rattle.batch.proofs.Asks.{first-refused}
use Rattle.batch_collapse.proofs.Collapsing.{collapse-refused}
use Rattle.batch_collapse.proofs.collapse.Goals as goal

pub returns-in_err-collapse_asks : goal.returns-in_err-collapse_asks
returns-in_err-collapse_asks c =
    collapse-refused _ _ _ _ _ _ _ _ _ _ _ _ _ _ _ c.from_residual.ensures.1 (first-refused _ c.in_err-collapse_asks.ensures)
