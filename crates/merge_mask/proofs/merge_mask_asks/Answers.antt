use mathlib.Core.Path.{sym, ◌∙◌}
use Rattle.column.specs.Questions.{paired}
use Rattle.column.proofs.FirstNo.{ends_at, goes_on, alone}
use Rattle.merge_mask.specs.Calls.{merge_mask_asked}
use Rattle.merge_mask.proofs.merge_mask_asks.Goals as goal

pub returns-in_err-ask_code : goal.returns-in_err-ask_code
unfolding merge_mask_asked paired
returns-in_err-ask_code c = ends_at _ _ _ c.from_residual.ensures.1 c.in_err-ask_code.ensures

pub returns-in_err-ask_mask : goal.returns-in_err-ask_mask
unfolding merge_mask_asked paired
returns-in_err-ask_mask c = goes_on _ c.in_ok-ask_code.ensures (ends_at _ _ _ c.from_residual-in_err-ask_mask.ensures.1 c.in_err-ask_mask.ensures)

pub returns-in_err-ask_lengths : goal.returns-in_err-ask_lengths
unfolding merge_mask_asked paired
returns-in_err-ask_lengths c =
    goes_on _ c.in_ok-ask_code.ensures (goes_on _ c.in_ok-ask_mask.ensures
    (ends_at _ _ _ c.from_residual-in_err-ask_lengths.ensures.1 c.in_err-ask_lengths.ensures))

pub returns-in_err-ask_mask_length : goal.returns-in_err-ask_mask_length
unfolding merge_mask_asked paired
returns-in_err-ask_mask_length c =
    goes_on _ c.in_ok-ask_code.ensures (goes_on _ c.in_ok-ask_mask.ensures (goes_on _ c.in_ok-ask_lengths.ensures
    (ends_at _ _ _ c.from_residual-in_err-ask_mask_length.ensures.1 c.in_err-ask_mask_length.ensures)))

pub returns-in_err-ask_ends : goal.returns-in_err-ask_ends
unfolding merge_mask_asked paired
returns-in_err-ask_ends c =
    goes_on _ c.in_ok-ask_code.ensures (goes_on _ c.in_ok-ask_mask.ensures (goes_on _ c.in_ok-ask_lengths.ensures
    (goes_on _ c.in_ok-ask_mask_length.ensures (ends_at _ _ _ c.from_residual-in_err-ask_ends.ensures.1 c.in_err-ask_ends.ensures))))

pub returns : goal.returns
unfolding merge_mask_asked paired
returns c =
    goes_on _ c.in_ok-ask_code.ensures (goes_on _ c.in_ok-ask_mask.ensures (goes_on _ c.in_ok-ask_lengths.ensures
    (goes_on _ c.in_ok-ask_mask_length.ensures (goes_on _ c.in_ok-ask_ends.ensures (c.ask_both.ensures ∙ sym (alone _))))))
