-- Where a key stands.
use Rattle.std.specs.Prelude.{ℕ, suc, cond, List, [], ◌∷◌, eqb}

-- the lowest position of a key, or how many keys there are
unfoldable pub lowest : ℕ → List ℕ → ℕ
lowest key [] = 0
lowest key (k ∷ ks) = cond (eqb key k) 0 (suc (lowest key ks))
