-- What a "yes" to all the questions of `plan` tells.
-- Assumes nothing.
use Prim.Native.Nat.{ℕ, ◌+◌, ◌≤◌}
use Rattle.std.specs.Prelude.{None}
use mathlib.Core.List.{List, [], ◌∷◌}
use mathlib.Core.Path.{◌≡◌, sym, ◌∙◌}
use lib.IntN.{ℤ}
use lib.ListN.{length}
use Rattle.column.specs.Questions.{ends_valid, room_at, room}
use Rattle.column.proofs.FirstNo.{all_yes}
use Rattle.column.proofs.Told.{room-told}
use Rattle.column.proofs.YesNo.{room-each}
use Rattle.plan.specs.Calls.{plan_asked}

pub plan-yes : (a b : List ℤ) (e x y : ℕ) → plan_asked a b (e ∷ x ∷ y ∷ []) ≡ None
    → (ends_valid a ≡ None) × (ends_valid b ≡ None) × (length a + length b ≤ e) × (length a + length b ≤ x) × (length a + length b ≤ y)
unfolding plan_asked
plan-yes a b e x y h =
    let n = length a + length b in
    let (valid_a, (valid_b, (enough, _))) = all_yes (ends_valid a ∷ ends_valid b ∷ room (n ∷ n ∷ n ∷ []) (e ∷ x ∷ y ∷ []) ∷ []) h in
    let (room-e, (room-x, (room-y, _))) = all_yes (room_at 0 n e ∷ room_at 1 n x ∷ room_at 2 n y ∷ [])
    (sym (room-each (n ∷ n ∷ n ∷ []) (e ∷ x ∷ y ∷ [])) ∙ enough) in
    (valid_a, valid_b, room-told 0 n e room-e, room-told 1 n x room-x, room-told 2 n y room-y)
