-- What finds by itself that questions put one after another, each with `?`, answer as the first "no" of them.
-- Assumes nothing.
use Prim.Native.Nat.{ℕ}
use mathlib.Core.List.{List, [], ◌∷◌}
use mathlib.Core.Path.{◌≡◌, sym, ◌∙◌}
use Rattle.column.specs.Asking.{Question, first_no}
use Rattle.column.specs.Questions.{room}
use Rattle.column.proofs.FirstNo.{ends_at, goes_on, alone}
use Rattle.column.proofs.YesNo.{room-each, rooms_from}

pub ruleset in_turn = (ends_at, goes_on, alone)

-- the room, asked buffer by buffer
pub in_rooms : {r : Question} (needed given : List ℕ) → r ≡ first_no (rooms_from 0 needed given) → r ≡ first_no (room needed given ∷ [])
in_rooms needed given h = h ∙ sym (room-each needed given) ∙ sym (alone (room needed given))
