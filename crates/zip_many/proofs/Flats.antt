-- Columns laid flat, as zip_many combines them: their ends, and their values where they stand.
-- Assumes nothing.
use Prim.Native.Nat.{ℕ, ◌+◌, ◌<◌}
use Rattle.std.specs.Prelude.{None, Option, Some}
use mathlib.Core.List.{List, [], ◌∷◌, map, map-map}
use mathlib.Core.Path.{◌≡◌, refl, ap, ap₂, ◌∙◌}
use native.Mathlib.Omega.{arith}
use lib.IntN.{ℤ}
use lib.ListN.{length, get_or}
use Rattle.column.specs.Combine.{Column, many, value_of, value_at, greatest_length, folded, row_at, table, combined}
use Rattle.column.specs.Flat.{flat, sequences_of, columns}
use Rattle.column.specs.Lists.{total, part, parts_from, parts}
use Rattle.column.specs.Questions.{sequences_valid}
use Rattle.column.specs.Runs.{Runs, runs, encode, Filled}
use Rattle.column.proofs.Ends.{values-runs}
use Rattle.column.proofs.Flattened.{total-parts}
use Rattle.column.proofs.Parts.{part-paired}
use Rattle.column.proofs.Positions.{each_position_cong}
use Rattle.plan.specs.Calls.{ends_in, values_for}
use Rattle.many.specs.Workers.{Placed}
use Rattle.many.proofs.Flats.{ends-columns}
use Rattle.many.proofs.Places.{values_at, placed-paired}
use Rattle.many.proofs.Walking.{ends_of_parts}

module _ (os : List ℕ) (es vs : List ℤ) (l : length es ≡ length vs) (v : sequences_valid os es ≡ None) (fill : Option ℤ) where
  -- their ends, each with the single fill
  pub ends-many : map (λ (c : Column). ends_in c.runs) (many fill (columns (flat os es vs))) ≡ ends_of_parts os es
  ends-many = map-map (λ (c : Column). ends_in c.runs) (λ (c : Runs). record { fill = fill; runs = c }) (columns (flat os es vs)) ∙ ends-columns os es vs l v

values-from : (fill : Option ℤ) (a : ℕ) (os : List ℕ) (es vs : List ℤ) (is : List ℕ) → length es ≡ length vs
    → values_for (many fill (map runs (sequences_of (parts_from a os es) (parts_from a os vs)))) is ≡ values_at is (parts_from a os vs) (value_of fill)
unfolding sequences_of parts_from
values-from fill a [] es vs [] l = refl
values-from fill a [] es vs (i ∷ is) l = refl
values-from fill a (b ∷ os) es vs [] l = refl
values-from fill a (b ∷ os) es vs (i ∷ is) l =
    ap₂ (λ (x : ℤ) (xs : List ℤ). x ∷ xs)
    (ap (λ (ys : List ℤ). get_or ys i (value_of fill)) (values-runs (part a b es) (part a b vs) (part-paired a b es vs l)))
    (values-from fill b os es vs is l)

-- their values where they stand
pub values-columns : (fill : Option ℤ) (os : List ℕ) (es vs : List ℤ) (is : List ℕ) → length es ≡ length vs
    → values_for (many fill (columns (flat os es vs))) is ≡ values_at is (parts os vs) (value_of fill)
unfolding columns sequences_of
values-columns fill [] es vs [] l = refl
values-columns fill [] es vs (i ∷ is) l = refl
values-columns fill (a ∷ os) es vs is l = values-from fill a os es vs is l

-- where there are runs, there is a column
pub placed-some : {os : List ℕ} {es : List ℤ} {is : List ℕ} → Placed os es is → 0 < length es → 0 < length is
placed-some {os} {es} q h = go (parts os es) (placed-paired q) (total-parts os es q.offsets)
  where
    go : {n : ℕ} (ess : List (List ℤ)) → n ≡ length ess → total (map length ess) ≡ length es → 0 < n
    go [] e t = let z : ⊥ = omega arith in absurd z
    go (xs ∷ ess) e t = omega arith

-- ---- a fill that is missing shows nowhere: the result is that of its value

module _ (f g : Option ℤ) (e : value_of f ≡ value_of g) where
  same-values : (i : ℕ) (cs : List Runs) → map (value_at i) (many f cs) ≡ map (value_at i) (many g cs)
  unfolding value_at
  same-values i [] = refl
  same-values i (c ∷ cs) = ap₂ (λ (x : ℤ) (xs : List ℤ). x ∷ xs) (rw e) (same-values i cs)

  same_length : (cs : List Runs) → greatest_length (many f cs) ≡ greatest_length (many g cs)
  unfolding greatest_length
  same_length [] = refl
  same_length (c ∷ cs) = rw (same_length cs)

  same-combined : (op : ℤ → ℤ → ℤ) (cs : List Runs) → combined op (many f cs) ≡ combined op (many g cs)
  unfolding combined table row_at
  same-combined op cs =
      ap encode
      (rw (same_length cs)
      (each_position_cong (row_at op (many f cs)) (row_at op (many g cs)) 0 0 (greatest_length (many g cs)) (λ i h. ap (folded op) (same-values (0 + i) cs))))

pub combined-filled : (op : ℤ → ℤ → ℤ) (fill : Option ℤ) (cs : List Runs) {x : ℤ} {e e' v v' : List ℤ} {n : ℕ} → x ≡ value_of fill
    → Filled (combined op (many (Some x) cs)) e e' v v' n → Filled (combined op (many fill cs)) e e' v v' n
combined-filled op fill cs {x} ex f = rw (same-combined (Some x) fill ex op cs) at f
