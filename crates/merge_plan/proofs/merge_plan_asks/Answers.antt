use mathlib.Core.Path.{sym, ◌∙◌}
use Rattle.column.proofs.FirstNo.{ends_at, goes_on, alone}
use Rattle.merge_plan.proofs.Asks.{merge_plan-asked}
use Rattle.merge_plan.proofs.merge_plan_asks.Goals as goal

pub returns-in_err-ask_mask : goal.returns-in_err-ask_mask
returns-in_err-ask_mask c = ends_at _ _ _ c.from_residual.ensures.1 c.in_err-ask_mask.ensures ∙ sym (merge_plan-asked _ _ _ _)

pub returns-in_err-ask_mask_length : goal.returns-in_err-ask_mask_length
returns-in_err-ask_mask_length c =
    goes_on _ c.in_ok-ask_mask.ensures
    (ends_at _ _ _ c.from_residual-in_err-ask_mask_length.ensures.1 c.in_err-ask_mask_length.ensures) ∙ sym (merge_plan-asked _ _ _ _)

pub returns-in_err-ask_ends : goal.returns-in_err-ask_ends
returns-in_err-ask_ends c =
    goes_on _ c.in_ok-ask_mask.ensures (goes_on _ c.in_ok-ask_mask_length.ensures
    (ends_at _ _ _ c.from_residual-in_err-ask_ends.ensures.1 c.in_err-ask_ends.ensures)) ∙ sym (merge_plan-asked _ _ _ _)

pub returns-in_err-ask_room : goal.returns-in_err-ask_room
returns-in_err-ask_room c =
    goes_on _ c.in_ok-ask_mask.ensures (goes_on _ c.in_ok-ask_mask_length.ensures (goes_on _ c.in_ok-ask_ends.ensures
    (ends_at _ _ _ c.from_residual-in_err-ask_room.ensures.1 c.in_err-ask_room.ensures))) ∙ sym (merge_plan-asked _ _ _ _)

pub returns : goal.returns
returns c =
    goes_on _ c.in_ok-ask_mask.ensures (goes_on _ c.in_ok-ask_mask_length.ensures (goes_on _ c.in_ok-ask_ends.ensures
    (goes_on _ c.in_ok-ask_room.ensures (c.ask_room-2.ensures ∙ sym (alone _))))) ∙ sym (merge_plan-asked _ _ _ _)
