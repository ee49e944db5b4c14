use mathlib.Core.Path.{◌∙◌, sym}
use mathlib.Core.List.{[], ◌∷◌}
use Rattle.column.specs.Questions.{sequence_asked}
use Rattle.column.proofs.FirstNo.{ends_within, goes_on_after, alone}
use Rattle.questions.proofs.ask_sequence_into.Goals as goal

pub returns-in_err-ask_sequence : goal.returns-in_err-ask_sequence
unfolding sequence_asked
returns-in_err-ask_sequence c = ends_within _ _ (_ ∷ _ ∷ []) _ c.from_residual.ensures.1 c.in_err-ask_sequence.ensures

pub returns : goal.returns
unfolding sequence_asked
returns c = goes_on_after (_ ∷ _ ∷ []) _ c.in_ok-ask_sequence.ensures (c.ask_both.ensures ∙ sym (alone _))
