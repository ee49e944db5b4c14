-- Parts of a list, and the question put to each part of a list that is laid flat.
-- Assumes nothing.
use Prim.Native.Nat.{ℕ, suc, ◌+◌, ◌-◌, ◌≤◌, ◌<◌}
use Rattle.std.specs.Prelude.{Some, None}
use mathlib.Core.List.{List, [], ◌∷◌}
use mathlib.Core.Path.{◌≡◌, refl, ap, ◌∙◌}
use native.Mathlib.Numerals.{add-one}
use native.Mathlib.Omega.{arith}
use lib.IntN.{ℤ}
use lib.ListN.{length, get_or, take, drop, length-take, length-drop, drop_of_length-le}
use lib.Seq.{drop-cons, take_all, take-nil, length-take-le, get_or-take, get_or-drop}
use Rattle.column.specs.Asking.{each_from}
use Rattle.column.specs.Lists.{part, parts_from, parts}
use Rattle.column.specs.Paper.{PaperRefusal}
use Rattle.column.specs.Questions.{sequence_at, sequences_valid}
use Rattle.column.proofs.FirstNo.{alone}

module _ {A : Type 0} (a b : ℕ) (xs : List A) where
  pub part_empty : b ≤ a → part a b xs ≡ []
  part_empty h = let e : b - a ≡ 0 = omega arith in rw e

  pub part-past : length xs ≤ a → part a b xs ≡ []
  part-past h = ap (take (b - a)) (drop_of_length-le xs {i = a} h) ∙ take-nil (b - a)

  pub part-rest : length xs ≤ b → part a b xs ≡ drop a xs
  part-rest h = take_all (b - a) (drop a xs) (rw length-drop (omega arith))

  pub length_part : b ≤ length xs → length (part a b xs) ≡ b - a
  length_part h = length-take-le (b - a) (drop a xs) (rw length-drop (omega arith))

  pub part_at : (i : ℕ) (d : A) → a + i < b → get_or (part a b xs) i d ≡ get_or xs (a + i) d
  part_at i d h = get_or-take (b - a) (drop a xs) i d (omega arith) ∙ get_or-drop a xs i d

-- the same part of two lists that are equally long
pub part-paired : {A B : Type 0} (a b : ℕ) (xs : List A) (ys : List B) → length xs ≡ length ys → length (part a b xs) ≡ length (part a b ys)
part-paired a b xs ys e = simp (length-take, length-drop, e)

-- ---- the parts between offsets, from the k-th on

unfoldable pub parts_at : ℕ → List ℕ → List ℤ → List (List ℤ)
parts_at k os es = parts_from (get_or os k 0) (drop (k + 1) os) es

pub parts-start : (os : List ℕ) (es : List ℤ) → parts os es ≡ parts_at 0 os es
unfolding parts_at parts_from
parts-start [] es = refl
parts-start (o ∷ os) es = refl

pub sequences-start : (os : List ℕ) (es : List ℤ) → sequences_valid os es ≡ each_from sequence_at 0 (parts_at 0 os es)
unfolding sequences_valid
sequences-start os es = rw (parts-start os es)

module _ (k : ℕ) (os : List ℕ) (es : List ℤ) where
  pub parts-cons : k + 1 < length os → parts_at k os es ≡ part (get_or os k 0) (get_or os (k + 1) 0) es ∷ parts_at (k + 1) os es
  unfolding parts_at parts_from
  parts-cons h = let m : k + 1 + 1 ≡ suc (k + 1) = omega arith in ap (λ (l : List ℕ). parts_from (get_or os k 0) l es) (drop-cons os (k + 1) 0 h) ∙ rw m

  pub parts-end : length os ≤ k + 1 → parts_at k os es ≡ []
  unfolding parts_at parts_from
  parts-end h = rw (drop_of_length-le os {i = k + 1} h)

  pub sequences-next : k + 1 < length os → sequence_at k (part (get_or os k 0) (get_or os (k + 1) 0) es) ≡ None
      → each_from sequence_at k (parts_at k os es) ≡ each_from sequence_at (k + 1) (parts_at (k + 1) os es)
  unfolding each_from
  sequences-next h e = rw (parts-cons h, e, add-one k) (alone (each_from sequence_at (suc k) (parts_at (suc k) os es)))

  pub sequences-refused : {r : PaperRefusal} → k + 1 < length os → sequence_at k (part (get_or os k 0) (get_or os (k + 1) 0) es) ≡ Some r
      → each_from sequence_at k (parts_at k os es) ≡ Some r
  unfolding each_from
  sequences-refused h e = rw (parts-cons h, e)

  pub sequences-end : length os ≤ k + 1 → each_from sequence_at k (parts_at k os es) ≡ None
  unfolding each_from
  sequences-end h = rw (parts-end h)
