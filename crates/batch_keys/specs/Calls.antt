-- batch.rs: where a key stands, and each key once.
use Rattle.std.specs.Prelude.{ℕ, cond, List, [], ◌∷◌, eqb, ltb, length, Option, Some, None}
use Rattle.column.specs.Lists.{any}
use Rattle.column.specs.Paper.{Outcome, answers}
use Rattle.batch_index.specs.Calls.{lowest}

-- "`position` (lowest; takes keys alone)"
unfoldable pub position : List ℕ → ℕ → Outcome (Option ℕ)
position keys key = let at = lowest key keys in answers (cond (ltb at (length keys)) (Some at) None)

-- each key once, where it first appears: those that do not stand before
unfoldable pub once_from : List ℕ → List ℕ → List ℕ
once_from before [] = []
once_from before (k ∷ ks) = cond (any (eqb k) before) (once_from before ks) (k ∷ once_from (k ∷ before) ks)

unfoldable pub once : List ℕ → List ℕ
once ks = once_from [] ks
