use mathlib.Core.Path.{◌∙◌, sym}
use Rattle.column.proofs.FirstNo.{ends_at, goes_on, alone}
use Rattle.batch.specs.Batch.{both_valid}
use Rattle.batch.proofs.two.ask_batches.Goals as goal

pub returns-in_err-ask_lengths : goal.returns-in_err-ask_lengths
unfolding both_valid
returns-in_err-ask_lengths c = ends_at _ _ _ c.from_residual.ensures.1 c.in_err-ask_lengths.ensures

pub returns : goal.returns
unfolding both_valid
returns c = goes_on _ c.in_ok-ask_lengths.ensures (c.ask_content.ensures ∙ sym (alone _))
