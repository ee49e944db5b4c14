-- The product of two numbers of 64 bits, by their 32-bit halves.
-- Assumes nothing.
use Rattle.std.proofs.Common.{◌≡◌, ℕ, ◌+◌, ◌-◌, ◌*◌, ◌/◌, ◌%◌, ◌^◌, ◌<◌, ◌≤◌, mul_assoc, mul_comm, add-mul, mul-le-mul, div-add-mod', mul-add, arith, w64, Fits}
use native.Mathlib.Nat.{mul-mul-mul_comm}

abbrev H : ℕ
H = 2 ^ 32

expand : (a₁ a₀ b₁ b₀ : ℕ) → (a₁ * H + a₀) * (b₁ * H + b₀) ≡ a₁ * b₁ * 2 ^ 64 + (a₁ * b₀ + a₀ * b₁) * H + a₀ * b₀
expand a₁ a₀ b₁ b₀ =
    omega (
      arith,
      add-mul (a₁ * H) a₀ (b₁ * H + b₀),
      mul-add (a₁ * H) (b₁ * H) b₀,
      mul-add a₀ (b₁ * H) b₀,
      mul_assoc a₁ H b₀,
      mul_comm H b₀,
      mul_assoc a₁ b₀ H,
      mul_assoc a₀ b₁ H,
      mul-mul-mul_comm a₁ H b₁ H,
    )

pub by_halves : (a b : ℕ) → a * b ≡ a / H * (b / H) * 2 ^ 64 + (a / H * (b % H) + a % H * (b / H)) * H + a % H * (b % H)
by_halves a b = rw (div-add-mod' a H, div-add-mod' b H) at (expand (a / H) (a % H) (b / H) (b % H))

half_product : {a b : ℕ} → a < H → b < H → a * b ≤ (H - 1) * (H - 1)
half_product h k = mul-le-mul {n₂ = H - 1} {m₂ = H - 1} (omega arith) (omega arith)

-- each of the four products leaves room for two halves more
pub record HalfProducts (a b : ℕ) : Type 0 where
  pub low_low : a % 2 ^ 32 * (b % 2 ^ 32) ≤ (2 ^ 32 - 1) * (2 ^ 32 - 1)
  pub high_low : a / 2 ^ 32 * (b % 2 ^ 32) ≤ (2 ^ 32 - 1) * (2 ^ 32 - 1)
  pub low_high : a % 2 ^ 32 * (b / 2 ^ 32) ≤ (2 ^ 32 - 1) * (2 ^ 32 - 1)
  pub high_high : a / 2 ^ 32 * (b / 2 ^ 32) ≤ (2 ^ 32 - 1) * (2 ^ 32 - 1)

pub half_products : {a b : ℕ} → Fits w64 a → Fits w64 b → HalfProducts a b
half_products f g =
    record {
      low_low = half_product (omega arith) (omega arith);
      high_low = half_product (omega arith) (omega arith);
      low_high = half_product (omega arith) (omega arith);
      high_high = half_product (omega arith) (omega arith);
    }
