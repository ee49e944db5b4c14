-- The residue modulo 2^64 of a sum, a difference and a product.
-- Assumes nothing.
use Rattle.std.proofs.Common.{◌≡◌, ℕ, zero, suc, ◌+◌, ◌-◌, ◌*◌, ◌/◌, ◌%◌, ◌^◌, ◌<◌, ltb, ℤ, pos, negsuc, ◌+ℤ◌, ◌-ℤ◌, ◌*ℤ◌, neg_ℤ, sym, refl, ap, ◌∙◌, mul_comm, add-mul, add_comm, mul-zero, div-add-mod', mul-add, mul_right_comm, arith, ltb-false, ltb-true}
use native.Mathlib.Nat.{add-mod}
use lib.IntN.{sub_ℕ}
use Rattle.num.specs.Numbers.{residue}
use Rattle.num.proofs.Tests.{by-test}

abbrev M : ℕ
M = 2 ^ 64

pub residue_lt : (z : ℤ) → residue z < 2 ^ 64
residue_lt (pos n) = omega arith
residue_lt (negsuc n) = omega arith

residue-sub_ℕ : (a b : ℕ) → residue (sub_ℕ a (suc b)) ≡ (a % M + (M - suc (b % M))) % M
residue-sub_ℕ a b =
    by-test (ltb a (suc b))
    (λ t. let l = ltb-true a (suc b) t in rw t (omega arith))
    (λ t. let l = ltb-false a (suc b) t in rw t (omega arith))

pub residue-add : (a b : ℤ) → residue (a +ℤ b) ≡ (residue a + residue b) % 2 ^ 64
residue-add (pos a) (pos b) = add-mod a b M
residue-add (pos a) (negsuc b) = residue-sub_ℕ a b
residue-add (negsuc a) (pos b) = residue-sub_ℕ b a ∙ ap (λ n. n % M) (add_comm (b % M) (M - suc (a % M)))
residue-add (negsuc a) (negsuc b) = omega arith

-- what added to n gives a multiple of 2^64
abbrev neg : ℕ → ℕ
neg n = (M - n % M) % M

residue-neg : (n : ℕ) → residue (neg_ℤ (pos n)) ≡ neg n
residue-neg zero = refl
residue-neg (suc n) = omega arith

residue_inverse : (z : ℤ) → (residue (neg_ℤ z) + residue z) % M ≡ 0
residue_inverse (pos zero) = refl
residue_inverse (pos (suc n)) = omega arith
residue_inverse (negsuc n) = omega arith

-- the one number below 2^64 that added to b gives a, modulo 2^64
pub residue-sub : (a b : ℤ) {u : ℕ} → u < 2 ^ 64 → (u + residue b) % 2 ^ 64 ≡ residue a → u ≡ residue (a -ℤ b)
residue-sub a b h e = omega (arith, residue-add a (neg_ℤ b), residue_inverse b, residue_lt b, residue_lt (neg_ℤ b))

-- a factor may be taken modulo 2^64
mod_left : (a b : ℕ) → (a % M * b) % M ≡ (a * b) % M
mod_left a b =
    let e : a * b ≡ a / M * b * M + a % M * b =
    ap (λ n. n * b) (sym (div-add-mod' a M)) ∙ add-mul (a / M * M) (a % M) b ∙ ap (λ n. n + a % M * b) (mul_right_comm (a / M) M b) in
    omega arith

mod_right : (a b : ℕ) → (a * (b % M)) % M ≡ (a * b) % M
mod_right a b = rw (mul_comm a (b % M), mul_comm a b) (mod_left b a)

mul-neg : (a n : ℕ) → (a * neg n) % M ≡ neg (a * n)
mul-neg a n =
    let i : (neg n + n) % M ≡ 0 = omega arith in
    let z : (a * (neg n + n)) % M ≡ 0 = sym (mod_right a (neg n + n)) ∙ rw (i, mul-zero a) in
    omega (arith, mul-add a (neg n) n)

neg-mul : (n b : ℕ) → (neg n * b) % M ≡ neg (n * b)
neg-mul n b = rw (mul_comm (neg n) b, mul_comm n b) (mul-neg b n)

residue-negsuc : (n : ℕ) → residue (negsuc n) ≡ neg (suc n)
residue-negsuc n = omega arith

pub residue-mul : (a b : ℤ) → residue (a *ℤ b) ≡ (residue a * residue b) % 2 ^ 64
residue-mul (pos a) (pos b) = sym (mod_left a (b % M) ∙ mod_right a b)
residue-mul (pos a) (negsuc b) =
    residue-neg (a * suc b) ∙ sym (mul-neg a (suc b)) ∙ sym (mod_left a (neg (suc b))) ∙ ap (λ n. (a % M * n) % M) (sym (residue-negsuc b))
residue-mul (negsuc a) (pos b) =
    residue-neg (suc a * b) ∙ sym (neg-mul (suc a) b) ∙ sym (mod_right (neg (suc a)) b) ∙ ap (λ n. (n * (b % M)) % M) (sym (residue-negsuc a))
residue-mul (negsuc a) (negsuc b) =
    let twice : (suc a * suc b) % M ≡ neg (neg (suc a) * suc b) = omega (arith, neg-mul (suc a) (suc b)) in
    twice ∙ sym (mul-neg (neg (suc a)) (suc b)) ∙
    ap (λ n. (n * neg (suc b)) % M) (sym (residue-negsuc a)) ∙ ap (λ n. (residue (negsuc a) * n) % M) (sym (residue-negsuc b))
