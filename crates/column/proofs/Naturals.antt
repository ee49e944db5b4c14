-- Signed numbers and their tests, as natural numbers.
-- Assumes nothing.
use Prim.Native.Nat.{ℕ, ◌<◌, ◌^◌, min, max}
use mathlib.Core.Bool.{true, false}
use mathlib.Core.Path.{◌≡◌, refl, ap}
use native.Mathlib.Omega.{arith}
use lib.Dec.{T, leb}
use lib.IntN.{ℤ, pos, negsuc, nat_abs}
use lib.Signed.{lt_z, non_neg}
use borrow.Author.Tests.{leb-true, leb-false, ltb-true}
use Rattle.num.proofs.Tests.{by-test}
use mir.Syntax.{w64}
use mir.Val.{to_z, of_z, Fits, SFits}
use Rattle.num.specs.Numbers.{smaller_of, larger_of}
use Rattle.num.proofs.Bits.{end_nat, end_cast}
use Rattle.column.specs.Runs.{to_nat}

-- a number that is not negative is its to_nat
pub natural : (z : ℤ) → lt_z z (pos 0) ≡ false → z ≡ pos (to_nat z)
natural (pos n) t = refl
natural (negsuc n) t = absurd (let w : ◌≡◌ {A = ℕ} 0 1 = cc in omega arith)

pub no_natural : (z : ℤ) → lt_z z (pos 0) ≡ true → to_nat z ≡ 0
no_natural (pos n) t = let h = ltb-true n 0 t in omega arith
no_natural (negsuc n) t = refl

-- ---- a signed local that is not negative, cast to a natural number

module _ (z : ℤ) (f : SFits w64 z) (t : lt_z z (pos 0) ≡ false) where
  pub to_nat_cast : T (non_neg (to_z w64 (of_z w64 z))) × Fits w64 (nat_abs (to_z w64 (of_z w64 z)))
  to_nat_cast = end_cast (natural z t) f.sfits

  pub to_nat_abs : nat_abs (to_z w64 (of_z w64 z)) ≡ to_nat z
  to_nat_abs = end_nat (natural z t) f.sfits

pub to_nat-below : (z : ℤ) → SFits w64 z → to_nat z < 2 ^ 63
to_nat-below (pos n) f = f.sfits
to_nat-below (negsuc n) f = omega arith

-- ---- the smaller and the larger of two natural numbers

module _ (a b : ℕ) where
  pub smaller_naturals : smaller_of (pos a) (pos b) ≡ pos (min a b)
  smaller_naturals =
      by-test (leb a b)
      (λ t. let h = leb-true a b t in let m : a ≡ min a b = omega arith in rw t (ap pos m))
      (λ t. let h = leb-false a b t in let m : b ≡ min a b = omega arith in rw t (ap pos m))

  pub larger_naturals : larger_of (pos a) (pos b) ≡ pos (max a b)
  larger_naturals =
      by-test (leb a b)
      (λ t. let h = leb-true a b t in let m : b ≡ max a b = omega arith in rw t (ap pos m))
      (λ t. let h = leb-false a b t in let m : a ≡ max a b = omega arith in rw t (ap pos m))
