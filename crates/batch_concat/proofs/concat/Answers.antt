use Rattle.batch_concat.proofs.Promised.{invalid_refused}
use Rattle.batch_concat.proofs.concat.Goals as goal

pub returns-in_err-ask_batches : goal.returns-in_err-ask_batches
returns-in_err-ask_batches c = invalid_refused _ _ _ _ _ _ _ _ _ _ _ _ _ _ c.from_residual.ensures.1 c.in_err-ask_batches.ensures
