-- What an i64 is converted to: its size, and where nothing is rounded.
-- Assumes nothing.
use mathlib.Core.Path.{sym, ap}
use mathlib.Core.Logic.{inl, inr}
use mathlib.Core.Bool.{Bool, not}
use Prim.Native.Nat.{ℕ, suc, ◌+◌, ◌*◌, ◌^◌, ◌≤◌, ◌<◌}
use native.Mathlib.Nat.{le_of_lt, lt_of_lt_of_le, eq-or-lt_of_le, mul-one}
use lib.Dec.{T, lit≤, lit<, le→leb, lt→ltb}
use lib.IntN.{ℤ, pos, negsuc, nat_abs}
use lib.Pow.{pow_pos, shl_lt}
use lib.Signed.{non_neg, nat_abs-le}
use mir.Syntax.{w64}
use mir.Val.{SFits}
use lib.Ieee.{binary64, in_float, of_int, round}
use lib.Ieee.Exact.{HasValue, round_exact}
use Rattle.float.specs.Float.{converted, Within}
use Rattle.float.proofs.Operations.{of_int-within, of_int-one}
use Rattle.float.proofs.Rounding.{OneOrMore}

pub converted-within : {z : ℤ} → SFits w64 z → Within 63 (converted z)
unfolding converted
converted-within {z} f = of_int-within binary64 z 63 (lit≤ tt) (nat_abs-le z f.sfits)

pub converted-one : {n : ℕ} → n < 2 ^ 63 → 0 < n → OneOrMore (converted (pos n))
unfolding converted
converted-one {n} h p = of_int-one binary64 (pos n) 63 (lit≤ tt) (le_of_lt h) p

-- ---- up to 2 ^ 53 in size

-- a cast asks this
pub exact_cast : (z : ℤ) → nat_abs z ≤ 2 ^ 53 → T (in_float binary64 z)
unfolding in_float
exact_cast (pos n) h = le→leb n (2 ^ 53) h
exact_cast (negsuc n) h = lt→ltb n (2 ^ 53) h

whole-exact : (s : Bool) (n : ℕ) → n ≤ 2 ^ 53 → HasValue (round binary64 s n 1) s n 1
whole-exact s n h =
    elim (eq-or-lt_of_le h) [
      | inl e ↦ round_exact binary64 s n 1 1 (53 + 1074) (pow_pos 0) (lit< tt) (lit< tt) (ap (λ (x : ℕ). x * 2 ^ 1074) e)
      | inr l ↦ round_exact binary64 s n 1 n 1074 (pow_pos 0) l (lt_of_lt_of_le (shl_lt 53 1074 l) (lit≤ tt)) (sym (mul-one (n * 2 ^ 1074)))
    ]

pub converted-exact : (z : ℤ) → nat_abs z ≤ 2 ^ 53 → HasValue (converted z) (not (non_neg z)) (nat_abs z) 1
unfolding converted of_int
converted-exact (pos n) h = whole-exact _ n h
converted-exact (negsuc n) h = whole-exact _ (suc n) h
