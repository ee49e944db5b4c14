-- The bytes of a mask, one after another, and question 1 of a mask by its first unlisted byte.
-- Assumes nothing.
use Prim.Native.Nat.{ℕ, suc, ◌+◌, ◌≤◌, ◌<◌}
use mathlib.Core.Bool.{cond}
use Rattle.std.specs.Prelude.{None}
use mathlib.Core.List.{List, [], ◌∷◌}
use mathlib.Core.Path.{◌≡◌, refl, ◌∙◌}
use native.Mathlib.Numerals.{add-one}
use native.Mathlib.Omega.{arith}
use lib.Dec.{eqb, leb}
use lib.IntN.{pos}
use lib.ListN.{length, get_or, drop, drop_of_length-le}
use lib.Seq.{drop-cons}
use borrow.Author.Tests.{le-leb, lt-leb, leb-true, leb-false}
use Rattle.num.proofs.Tests.{by-test}
use Rattle.column.specs.Asking.{refusal, each_from}
use Rattle.column.specs.Workers.{first_unlisted, mask_ones}
use Rattle.column.specs.Questions.{listed, mask_listed}
use Rattle.column.proofs.FirstNo.{alone}
use Rattle.column.proofs.YesNo.{listed-yes, listed-refused}

-- the bytes before i are listed
pub record Listed (mask : List ℕ) (i : ℕ) : Type 0 where
  pub within : i ≤ length mask
  pub rest : first_unlisted mask ≡ i + first_unlisted (drop i mask)

pub listed-none : (mask : List ℕ) → Listed mask 0
listed-none mask = record { within = omega arith; rest = omega arith }

module _ {mask : List ℕ} {i : ℕ} (l : Listed mask i) where
  pub listed_next : i < length mask → get_or mask i 0 ≤ 1 → Listed mask (i + 1)
  unfolding first_unlisted
  listed_next h k =
      let n : first_unlisted (drop i mask) ≡ suc (first_unlisted (drop (i + 1) mask)) = rw (add-one, drop-cons mask i 0, le-leb (get_or mask i 0) 1 k) in
      record { within = omega arith; rest = omega (arith, l.rest) }

  pub listed-not : i < length mask → 1 < get_or mask i 0 → i ≡ first_unlisted mask
  unfolding first_unlisted
  listed-not h k = let n : first_unlisted (drop i mask) ≡ 0 = rw (drop-cons mask i 0, lt-leb (get_or mask i 0) 1 k) in omega (arith, l.rest, l.within)

  pub listed-all : length mask ≤ i → length mask ≡ first_unlisted mask
  unfolding first_unlisted
  listed-all h = let n : first_unlisted (drop i mask) ≡ 0 = rw drop_of_length-le in omega (arith, l.rest, l.within)

-- so many of the bytes before i are 1
pub record Ones (mask : List ℕ) (count i : ℕ) : Type 0 where
  pub within : i ≤ length mask
  pub few : count ≤ i
  pub rest : count + mask_ones (drop i mask) ≡ mask_ones mask

pub ones_none : (mask : List ℕ) → Ones mask 0 0
ones_none mask = record { within = omega arith; few = omega arith; rest = omega arith }

module _ {mask : List ℕ} {count i : ℕ} (o : Ones mask count i) where
  pub ones_next : i < length mask → {r b : ℕ} → b ≡ get_or mask i 0 → r ≡ cond (eqb b 1) (count + 1) count → Ones mask r (i + 1)
  unfolding mask_ones
  ones_next h {r} {b} eb er =
      by-test (eqb (get_or mask i 0) 1)
      (λ t. let n : mask_ones (drop i mask) ≡ suc (mask_ones (drop (i + 1) mask)) = rw (add-one, drop-cons mask i 0, t) in
      let m : r ≡ count + 1 = er ∙ rw (eb, t) in
      record { within = omega arith; few = omega (arith, o.few); rest = omega (arith, o.rest) })
      (λ t. let n : mask_ones (drop i mask) ≡ mask_ones (drop (i + 1) mask) = rw (add-one, drop-cons mask i 0, t) in
      let m : r ≡ count = er ∙ rw (eb, t) in
      record { within = omega arith; few = omega (arith, o.few); rest = omega (arith, o.rest) })

  pub ones_all : length mask ≤ i → count ≡ mask_ones mask
  unfolding mask_ones
  ones_all h = let n : mask_ones (drop i mask) ≡ 0 = rw drop_of_length-le in omega (arith, o.rest)

-- ---- question 1

listed-from : (k : ℕ) (mask : List ℕ) → length mask ≤ first_unlisted mask → each_from (λ i. listed 0 1) k mask ≡ None
unfolding each_from first_unlisted
listed-from k [] h = refl
listed-from k (m ∷ mask) h =
    by-test (leb m 1)
    (λ t. let l : suc (length mask) ≤ suc (first_unlisted mask) = rw t at h in
    rw (listed-yes 0 1 m (omega arith) (leb-true m 1 t)) (alone (each_from (λ i. listed 0 1) (suc k) mask) ∙ listed-from (suc k) mask (omega arith)))
    (λ t. let l : suc (length mask) ≤ 0 = rw t at h in let z : ⊥ = omega arith in absurd z)

refused-from : (k : ℕ) (mask : List ℕ) → first_unlisted mask < length mask
    → each_from (λ i. listed 0 1) k mask ≡ refusal 1 (pos (get_or mask (first_unlisted mask) 0) ∷ [])
unfolding each_from first_unlisted
refused-from k [] h = let z : ⊥ = omega arith in absurd z
refused-from k (m ∷ mask) h =
    by-test (leb m 1)
    (λ t. let l : suc (first_unlisted mask) < suc (length mask) = rw t at h in
    rw (t, listed-yes 0 1 m (omega arith) (leb-true m 1 t)) (alone (each_from (λ i. listed 0 1) (suc k) mask) ∙ refused-from (suc k) mask (omega arith)))
    (λ t. rw (t, listed-refused 0 1 m (λ _ l. omega (arith, leb-false m 1 t))))

-- every byte is listed where no other is found, else the refusal is that of the byte found
pub mask_yes : (mask : List ℕ) {i : ℕ} → i ≡ first_unlisted mask → length mask ≤ i → mask_listed mask ≡ None
unfolding mask_listed
mask_yes mask e h = listed-from 0 mask (omega arith)

pub mask_refused : (mask : List ℕ) {i : ℕ} → i ≡ first_unlisted mask → i < length mask → mask_listed mask ≡ refusal 1 (pos (get_or mask i 0) ∷ [])
unfolding mask_listed
mask_refused mask e h = rw e (refused-from 0 mask (omega arith))
