-- A signed local holds bits. What is read back from the bits of a number that fits is the number, and equal bits are equal numbers.
-- Assumes nothing.
use Rattle.std.proofs.Common.{◌≡◌, ℕ, zero, suc, ◌^◌, ◌<◌, Bool, true, false, T, eqb, List, [], ◌∷◌, length, get_or, ℤ, pos, nat_abs, sym, refl, ap, ◌∙◌, ap₂, arith, to_z-of_z, w64, Fits, SFits, to_z, of_z, eqb-true}
use lib.Signed.{mag, le_z, lt_z, non_neg}
use borrow.Author.Tests.{eqb-false}
use Rattle.num.specs.Numbers.{eq_z}
use Rattle.num.proofs.Tests.{eq_eq_z, ne_eq_z, by-test}

pub back : (z : ℤ) → mag z < 2 ^ 63 → to_z w64 (of_z w64 z) ≡ z
back z h = to_z-of_z {w = w64} (record { sfits = h })

module _ {a b : ℤ} (f : SFits w64 a) (g : SFits w64 b) where
  pub bits-eq_z : of_z w64 a ≡ of_z w64 b → eq_z a b ≡ true
  bits-eq_z e = eq_eq_z a b (sym (to_z-of_z f) ∙ ap (to_z w64) e ∙ to_z-of_z g)

  pub bits_ne_z : (of_z w64 a ≡ of_z w64 b → ⊥) → eq_z a b ≡ false
  bits_ne_z n = ne_eq_z a b (λ e. n (ap (of_z w64) e))

  pub bits_test : eqb (of_z w64 a) (of_z w64 b) ≡ eq_z a b
  bits_test =
      by-test (eqb (of_z w64 a) (of_z w64 b))
      (λ t. t ∙ sym (bits-eq_z (eqb-true (of_z w64 a) (of_z w64 b) t)))
      (λ t. t ∙ sym (bits_ne_z (eqb-false (of_z w64 a) (of_z w64 b) t)))

  -- what a test of two signed locals tells of the numbers
  pub told_le : {t : Bool} → le_z (to_z w64 (of_z w64 a)) (to_z w64 (of_z w64 b)) ≡ t → le_z a b ≡ t
  told_le e = rw (to_z-of_z f, to_z-of_z g) at e

  pub told_lt : {t : Bool} → lt_z (to_z w64 (of_z w64 a)) (to_z w64 (of_z w64 b)) ≡ t → lt_z a b ≡ t
  told_lt e = rw (to_z-of_z f, to_z-of_z g) at e

-- inside a list the default makes no difference
pub get_d_any : (l : List ℤ) (i : ℕ) (d d' : ℤ) → i < length l → get_or l i d ≡ get_or l i d'
get_d_any [] i d d' h = let z : ⊥ = omega arith in absurd z
get_d_any (x ∷ l) zero d d' h = refl
get_d_any (x ∷ l) (suc i) d d' h = get_d_any l i d d' (omega arith)

-- a signed number that is a natural number below 2^64, cast
pub cast_nat : {z : ℤ} {n : ℕ} → z ≡ pos n → n < 2 ^ 64 → T (non_neg z) × Fits w64 (nat_abs z)
cast_nat e h = rw e (tt, record { fits = h })

-- a local that holds an end, cast to a natural number
module _ {x : ℤ} {m : ℕ} (e : x ≡ pos m) (h : mag x < 2 ^ 63) where
  pub end_nat : nat_abs (to_z w64 (of_z w64 x)) ≡ m
  end_nat = ap nat_abs (back x h ∙ e)

  pub end_cast : T (non_neg (to_z w64 (of_z w64 x))) × Fits w64 (nat_abs (to_z w64 (of_z w64 x)))
  end_cast = let k : m < 2 ^ 63 = rw e at h in cast_nat (back x h ∙ e) (omega arith)

-- the result of a call on two signed parameters
pub told-call : {x y r : ℤ} (op : ℤ → ℤ → ℤ) → SFits w64 x → SFits w64 y → mag r < 2 ^ 63
    → r ≡ op (to_z w64 (of_z w64 x)) (to_z w64 (of_z w64 y)) → to_z w64 (of_z w64 r) ≡ op x y
told-call {x} {y} {r} op f g h e = back r h ∙ e ∙ ap₂ op (to_z-of_z f) (to_z-of_z g)
