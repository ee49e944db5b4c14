use mathlib.Core.Path.{◌∙◌, sym}
use Rattle.column.proofs.FirstNo.{ends_at, goes_on, alone}
use Rattle.column.proofs.YesNo.{room-both}
use Rattle.questions.proofs.ask_both.Goals as goal

pub returns-in_err-ask_room : goal.returns-in_err-ask_room
returns-in_err-ask_room c = ends_at _ _ _ c.from_residual.ensures.1 c.in_err-ask_room.ensures ∙ sym (room-both _ _ _)

pub returns : goal.returns
returns c = goes_on _ c.in_ok-ask_room.ensures (c.ask_room-2.ensures ∙ sym (alone _)) ∙ sym (room-both _ _ _)
