use mathlib.Core.Path.{◌∙◌, sym}
use Rattle.column.specs.Questions.{paired}
use Rattle.column.proofs.FirstNo.{ends_at, goes_on, alone}
use Rattle.questions.proofs.ask_flat.Goals as goal

pub returns-in_err-ask_lengths : goal.returns-in_err-ask_lengths
unfolding paired
returns-in_err-ask_lengths c = ends_at _ _ _ c.from_residual.ensures.1 c.in_err-ask_lengths.ensures

pub returns-in_err-ask_offsets : goal.returns-in_err-ask_offsets
unfolding paired
returns-in_err-ask_offsets c = goes_on _ c.in_ok-ask_lengths.ensures (ends_at _ _ _ c.from_residual-in_err-ask_offsets.ensures.1 c.in_err-ask_offsets.ensures)

pub returns : goal.returns
unfolding paired
returns c = goes_on _ c.in_ok-ask_lengths.ensures (goes_on _ c.in_ok-ask_offsets.ensures (c.ask_sequences.ensures ∙ sym (alone _)))
