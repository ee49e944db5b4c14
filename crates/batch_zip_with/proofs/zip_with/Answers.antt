use Rattle.batch.proofs.Asks.{first-refused}
use Rattle.batch.proofs.Laying.{batch-refused}
use Rattle.batch_zip_with.specs.Calls.{zip_with}
use Rattle.batch_zip_with.proofs.zip_with.Goals as goal

pub returns-in_err-zip_asks : goal.returns-in_err-zip_asks
unfolding zip_with
returns-in_err-zip_asks c = batch-refused _ _ _ c.from_residual.ensures.1 (first-refused _ c.in_err-zip_asks.ensures)
