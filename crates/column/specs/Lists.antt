-- Lists: a test over their entries, their sum, and parts of them.
use Rattle.std.specs.Prelude.{ℕ, ◌+◌, ◌-◌, Bool, false, ◌||◌, List, [], ◌∷◌, take, drop}

-- is there one that passes
abbrev pub any : {A : Type 0} → (A → Bool) → List A → Bool
any f [] = false
any f (x ∷ xs) = f x || any f xs

abbrev pub total : List ℕ → ℕ
total [] = 0
total (n ∷ ns) = n + total ns

-- the entries from a up to b
abbrev pub part : {A : Type 0} → ℕ → ℕ → List A → List A
part a b xs = take (b - a) (drop a xs)

-- "key k owns entries offsets[k] up to offsets[k+1]": the part of each key, from an offset on
unfoldable pub parts_from : {A : Type 0} → ℕ → List ℕ → List A → List (List A)
parts_from a [] xs = []
parts_from a (b ∷ os) xs = part a b xs ∷ parts_from b os xs

abbrev pub parts : {A : Type 0} → List ℕ → List A → List (List A)
parts [] xs = []
parts (a ∷ os) xs = parts_from a os xs
