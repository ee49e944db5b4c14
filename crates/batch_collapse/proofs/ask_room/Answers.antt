use mathlib.Core.Path.{◌∙◌, sym}
use Rattle.column.proofs.FirstNo.{ends_at, goes_on, alone}
use Rattle.batch_collapse.proofs.Asks.{rooms-together}
use Rattle.batch_collapse.proofs.ask_room.Goals as goal

pub returns-in_err-ask_room : goal.returns-in_err-ask_room
returns-in_err-ask_room c = ends_at _ _ _ c.from_residual.ensures.1 c.in_err-ask_room.ensures ∙ rooms-together _ _ _ _ _ _ _ _ _ _

pub returns-in_err-ask_room-2 : goal.returns-in_err-ask_room-2
returns-in_err-ask_room-2 c =
    goes_on _ c.in_ok-ask_room.ensures (ends_at _ _ _ c.from_residual-in_err-ask_room-2.ensures.1 c.in_err-ask_room-2.ensures)
    ∙ rooms-together _ _ _ _ _ _ _ _ _ _

pub returns : goal.returns
returns c =
    goes_on _ c.in_ok-ask_room.ensures (goes_on _ c.in_ok-ask_room-2.ensures (c.ask_room-3.ensures ∙ sym (alone _)))
    ∙ rooms-together _ _ _ _ _ _ _ _ _ _
