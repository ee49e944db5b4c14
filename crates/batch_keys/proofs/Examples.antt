-- Worked examples of position, computed from its definition.
-- Assumes nothing.
use Rattle.std.specs.Prelude.{Some, None}
use mathlib.Core.List.{[], ◌∷◌}
use mathlib.Core.Path.{◌≡◌, refl}
use Rattle.column.specs.Paper.{answers}
use Rattle.batch_index.specs.Calls.{lowest}
use Rattle.batch_keys.specs.Calls.{position}

-- the lowest of a double key, a later key, and an absent one
pub examples : (position (5 ∷ 2 ∷ 5 ∷ []) 5 ≡ answers (Some 0)) × (position (5 ∷ 2 ∷ 5 ∷ []) 2 ≡ answers (Some 1))
    × (position (5 ∷ 2 ∷ 5 ∷ []) 9 ≡ answers None)
unfolding lowest position
examples = (refl, refl, refl)
