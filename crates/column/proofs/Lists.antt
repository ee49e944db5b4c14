-- Tests over lists, one entry after another, and the last of a list.
-- Assumes nothing.
use Prim.Native.Nat.{ℕ, suc, ◌+◌, ◌-◌, ◌≤◌, ◌<◌}
use mathlib.Core.Bool.{Bool, true, false, ◌||◌}
use mathlib.Core.List.{List, [], ◌∷◌, ◌++◌}
use mathlib.Core.Path.{◌≡◌, refl, ap, ◌∙◌, sym}
use native.Mathlib.Numerals.{add-one}
use native.Mathlib.Omega.{arith}
use lib.ListN.{length, get_or, drop, drop_of_length-le}
use lib.Seq.{drop-cons}
use borrow.Author.Tests.{le-leb, lt-leb, ne_eqb}
use Rattle.std.specs.Prelude.{Option, unwrap_or, slice_get}
use Rattle.std.proofs.lemmas.Option.{unwrap_or-slice_get}
use Rattle.num.proofs.Tests.{by-test}
use Rattle.column.specs.Lists.{any}
use Rattle.column.specs.Questions.{rise, start_and_rise, last_offset}

pub any_append : {A : Type 0} (f : A → Bool) (xs ys : List A) → any f (xs ++ ys) ≡ any f xs || any f ys
any_append f [] ys = refl
any_append f (x ∷ xs) ys = by-test (f x) (λ t. rw t) (λ t. rw t (any_append f xs ys))

-- ---- offsets: `before` is the one before that at i

module _ (before i : ℕ) (os : List ℕ) where
  pub rise-next : i < length os → before ≤ get_or os i 0 → rise before (drop i os) ≡ rise (get_or os i 0) (drop (i + 1) os)
  rise-next h k = rw (add-one, drop-cons os i 0, le-leb before (get_or os i 0) k)

  pub rise_fall : i < length os → get_or os i 0 < before → rise before (drop i os) ≡ false
  rise_fall h k = rw (drop-cons os i 0, lt-leb before (get_or os i 0) k)

  pub rise-end : length os ≤ i → rise before (drop i os) ≡ true
  rise-end h = rw drop_of_length-le

pub start_none : (os : List ℕ) → length os ≡ 0 → start_and_rise os ≡ false
start_none [] h = refl
start_none (o ∷ os) h = let z : ⊥ = omega arith in absurd z

pub start-above : (os : List ℕ) → (get_or os 0 0 ≡ 0 → ⊥) → start_and_rise os ≡ false
start-above [] h = refl
start-above (o ∷ os) h = rw (ne_eqb o 0 h)

pub start-rise : (os : List ℕ) → (length os ≡ 0 → ⊥) → get_or os 0 0 ≡ 0 → start_and_rise os ≡ rise 0 os
start-rise [] h e = absurd (h refl)
start-rise (o ∷ os) h e = rw e

last-from : (a o : ℕ) (os : List ℕ) → last_offset a (o ∷ os) ≡ get_or (o ∷ os) (length os) 0
last-from a o [] = refl
last-from a o (p ∷ os) = last-from o p os

pub last_is : (os : List ℕ) → (length os ≡ 0 → ⊥) → last_offset 0 os ≡ get_or os (length os - 1) 0
last_is [] h = absurd (h refl)
last_is (o ∷ os) h =
    let m : length os ≡ suc (length os) - 1 = omega arith in
    last-from 0 o os ∙ ap (λ (n : ℕ). get_or (o ∷ os) n 0) m

-- as `last` reads it
pub offset_read : (os : List ℕ) {o : Option ℕ} → o ≡ slice_get os (length os - 1) → unwrap_or o 0 ≡ last_offset 0 os
offset_read [] h = rw h
offset_read (o ∷ os) h =
    rw h (unwrap_or-slice_get (o ∷ os) (length (o ∷ os) - 1) 0) ∙ sym (last_is (o ∷ os) (λ z. let f : ⊥ = omega arith in f))
