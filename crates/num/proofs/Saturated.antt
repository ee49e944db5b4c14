-- Numbers that stop at the greatest of 64 bits: from the two halves of a number, and stopping on the way of a sum.
-- Assumes nothing.
use Rattle.std.proofs.Common.{◌≡◌, ℕ, ◌+◌, ◌-◌, ◌*◌, ◌^◌, ◌<◌, arith}
use Rattle.num.specs.Numbers.{saturated}

pub saturated-add : (a b : ℕ) → saturated (saturated a + b) ≡ saturated (a + b)
saturated-add a b = omega arith

module _ (high low : ℕ) {n : ℕ} (e : high * 2 ^ 64 + low ≡ n) where
  pub saturated-low : high ≡ 0 → low < 2 ^ 64 → low ≡ saturated n
  saturated-low z h = omega arith

  pub saturated_high : (high ≡ 0 → ⊥) → 2 ^ 64 - 1 ≡ saturated n
  saturated_high p = omega arith
