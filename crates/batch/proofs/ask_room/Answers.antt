use mathlib.Core.Path.{◌∙◌, sym}
use Rattle.column.proofs.FirstNo.{ends_at, goes_on, alone}
use Rattle.column.proofs.YesNo.{room-each}
use Rattle.batch.proofs.ask_room.Goals as goal

pub returns-in_err-ask_room : goal.returns-in_err-ask_room
returns-in_err-ask_room c = ends_at _ _ _ c.from_residual.ensures.1 c.in_err-ask_room.ensures ∙ sym (room-each _ _)

pub returns-in_err-ask_room-2 : goal.returns-in_err-ask_room-2
returns-in_err-ask_room-2 c =
    goes_on _ c.in_ok-ask_room.ensures (ends_at _ _ _ c.from_residual-in_err-ask_room-2.ensures.1 c.in_err-ask_room-2.ensures)
    ∙ sym (room-each _ _)

pub returns-in_err-ask_room-3 : goal.returns-in_err-ask_room-3
returns-in_err-ask_room-3 c =
    goes_on _ c.in_ok-ask_room.ensures (goes_on _ c.in_ok-ask_room-2.ensures
    (ends_at _ _ _ c.from_residual-in_err-ask_room-3.ensures.1 c.in_err-ask_room-3.ensures))
    ∙ sym (room-each _ _)

pub returns : goal.returns
returns c =
    goes_on _ c.in_ok-ask_room.ensures (goes_on _ c.in_ok-ask_room-2.ensures (goes_on _ c.in_ok-ask_room-3.ensures
    (c.ask_room-4.ensures ∙ sym (alone _))))
    ∙ sym (room-each _ _)
