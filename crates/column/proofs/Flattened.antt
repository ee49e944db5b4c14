-- Sequences laid flat: where each of them stands, and the columns that they are.
-- Assumes nothing.
use Prim.Native.Nat.{ℕ, zero, suc, ◌+◌, ◌-◌, ◌≤◌, ◌<◌}
use mathlib.Core.Bool.{true}
use Rattle.std.specs.Prelude.{Some, None}
use mathlib.Core.List.{List, [], ◌∷◌, map}
use mathlib.Core.Path.{◌≡◌, refl, ap, ap₂, sym}
use native.Mathlib.Numerals.{add-one}
use native.Mathlib.Omega.{arith}
use lib.Dec.{eqb, leb}
use lib.IntN.{ℤ, pos}
use lib.ListN.{length, get_or}
use borrow.Author.Tests.{leb-true, eqb-true}
use Rattle.num.proofs.Tests.{both_true}
use Rattle.column.specs.Asking.{Question, each_from, refused_in_key}
use Rattle.column.specs.Flat.{flat, sequences_of, columns}
use Rattle.column.specs.Lists.{total, part, parts_from, parts}
use Rattle.column.specs.Questions.{ends_valid, sequence_at, sequences_valid, offsets_valid, rise, last_offset}
use Rattle.column.specs.Runs.{Runs, runs_of, runs, length_of, length_of_ends}
use Rattle.column.proofs.All.{All}
use Rattle.column.proofs.Ends.{length_of-ends, rising, runs-rise}
use Rattle.column.proofs.FirstNo.{first-yes, rest-yes}
use Rattle.column.proofs.Parts.{length_part, part-paired}
use Rattle.column.proofs.Rising.{Valid}
use Rattle.column.proofs.Told.{offsets-told}

-- ---- offsets, from a on

le_last : (a : ℕ) (os : List ℕ) → rise a os ≡ true → a ≤ last_offset a os
le_last a [] e = omega arith
le_last a (b ∷ os) e =
    let t = both_true (leb a b) (rise b os) e in
    omega (arith, leb-true a b t.0, le_last b os t.1)

rise_at : (a : ℕ) (os : List ℕ) (c : ℕ) → rise a os ≡ true → c < length os → (get_or (a ∷ os) c 0 ≤ get_or os c 0) × (get_or os c 0 ≤ last_offset a os)
rise_at a [] c e h = let z : ⊥ = omega arith in absurd z
rise_at a (b ∷ os) zero e h = let t = both_true (leb a b) (rise b os) e in (leb-true a b t.0, le_last b os t.1)
rise_at a (b ∷ os) (suc c) e h = rise_at b os c (both_true (leb a b) (rise b os) e).1 (omega arith)

-- valid offsets exist, and each sequence stands inside the entries
pub offsets-some : (os : List ℕ) (n : ℕ) → offsets_valid os n ≡ None → 0 < length os
offsets-some [] n e = let t = (offsets-told [] n e).0 in absurd (let z : ◌≡◌ {A = ℕ} 0 1 = cc in omega arith)
offsets-some (a ∷ os) n e = omega arith

pub offset-within : (os : List ℕ) (n c : ℕ) → offsets_valid os n ≡ None → c + 1 < length os → (get_or os c 0 ≤ get_or os (c + 1) 0) × (get_or os (c + 1) 0 ≤ n)
offset-within [] n c e h = let z : ⊥ = omega arith in absurd z
offset-within (a ∷ os) n c e h =
    let t = offsets-told (a ∷ os) n e in
    let r = rise_at a os c (both_true (eqb a 0) (rise a os) t.0).1 (omega arith) in
    rw add-one (r.0, omega (arith, r.1, t.1))

-- ---- the parts between offsets

length-parts-from : {A : Type 0} (a : ℕ) (os : List ℕ) (xs : List A) → length (parts_from a os xs) ≡ length os
unfolding parts_from
length-parts-from a [] xs = refl
length-parts-from a (b ∷ os) xs = ap suc (length-parts-from b os xs)

pub length-parts : {A : Type 0} (os : List ℕ) (xs : List A) → length (parts os xs) ≡ length os - 1
length-parts [] xs = refl
length-parts (a ∷ os) xs = omega (arith, length-parts-from a os xs)

total-from : {A : Type 0} (a : ℕ) (os : List ℕ) (xs : List A) → rise a os ≡ true → last_offset a os ≤ length xs
    → total (map length (parts_from a os xs)) ≡ last_offset a os - a
unfolding parts_from
total-from a [] xs e h = omega arith
total-from a (b ∷ os) xs e h =
    let t = both_true (leb a b) (rise b os) e in
    omega (arith, leb-true a b t.0, le_last b os t.1, length_part a b xs (omega (arith, le_last b os t.1)), total-from b os xs t.1 h)

-- together they have all entries
pub total-parts : {A : Type 0} (os : List ℕ) (xs : List A) → offsets_valid os (length xs) ≡ None → total (map length (parts os xs)) ≡ length xs
total-parts [] xs e = absurd (let z : ⊥ = omega (arith, offsets-some [] (length xs) e) in z)
total-parts (a ∷ os) xs e =
    let t = offsets-told (a ∷ os) (length xs) e in
    let s = both_true (eqb a 0) (rise a os) t.0 in
    omega (arith, total-from a os xs s.1 (omega (arith, t.1)), eqb-true a 0 s.0, t.1)

-- ---- the columns that they are

in_key-none : (p : ℕ) (q : Question) → refused_in_key p q ≡ None → q ≡ None
in_key-none p None e = refl
in_key-none p (Some r) e = cc

abbrev pub AllValid : List (List ℤ) → Type 0
AllValid columns = All (λ (es : List ℤ). ends_valid es ≡ None) columns

all_from : (p : ℕ) (ess : List (List ℤ)) → each_from sequence_at p ess ≡ None → AllValid ess
unfolding each_from
all_from p [] e = tt
all_from p (es ∷ ess) e =
    let q = each_from sequence_at (suc p) ess in
    (in_key-none p (ends_valid es) (first-yes (sequence_at p es) (q ∷ []) e), all_from (suc p) ess (first-yes q [] (rest-yes (sequence_at p es) (q ∷ []) e)))

pub sequences-told : (os : List ℕ) (es : List ℤ) → sequences_valid os es ≡ None → AllValid (parts os es)
unfolding sequences_valid
sequences-told os es e = all_from 0 (parts os es) e

-- what f makes of a column's runs and g of its ends, for every column
module _ {B : Type 0} (f : Runs → B) (g : List ℤ → B) (same : (es vs : List ℤ) → ends_valid es ≡ None → length es ≡ length vs → f (runs_of es vs) ≡ g es) where
  columns-from : (a : ℕ) (os : List ℕ) (es vs : List ℤ) → length es ≡ length vs → AllValid (parts_from a os es)
      → map f (map runs (sequences_of (parts_from a os es) (parts_from a os vs))) ≡ map g (parts_from a os es)
  unfolding sequences_of parts_from
  columns-from a [] es vs l v = refl
  columns-from a (b ∷ os) es vs l v =
      ap₂ (λ (x : B) (xs : List B). x ∷ xs) (same (part a b es) (part a b vs) v.0 (part-paired a b es vs l)) (columns-from b os es vs l v.1)

  pub columns_by_ends : (os : List ℕ) (es vs : List ℤ) → length es ≡ length vs → AllValid (parts os es) → map f (columns (flat os es vs)) ≡ map g (parts os es)
  unfolding columns sequences_of
  columns_by_ends [] es vs l v = refl
  columns_by_ends (a ∷ os) es vs l v = columns-from a os es vs l v

valid-from : (a : ℕ) (os : List ℕ) (es vs : List ℤ) → AllValid (parts_from a os es) → All Valid (map runs (sequences_of (parts_from a os es) (parts_from a os vs)))
unfolding sequences_of parts_from
valid-from a [] es vs v = tt
valid-from a (b ∷ os) es vs v = (runs-rise 0 (part a b es) (part a b vs) (rising (part a b es) v.0), valid-from b os es vs v.1)

pub columns-valid : (os : List ℕ) (es vs : List ℤ) → AllValid (parts os es) → All Valid (columns (flat os es vs))
unfolding columns sequences_of
columns-valid [] es vs v = tt
columns-valid (a ∷ os) es vs v = valid-from a os es vs v

-- their lengths, by their ends
pub lengths_by_ends : (os : List ℕ) (es vs : List ℤ) → length es ≡ length vs → AllValid (parts os es)
    → map (λ (c : Runs). pos (length_of c)) (columns (flat os es vs)) ≡ map length_of_ends (parts os es)
lengths_by_ends = columns_by_ends (λ c. pos (length_of c)) length_of_ends (λ es vs v l. sym (length_of-ends es vs v l))
