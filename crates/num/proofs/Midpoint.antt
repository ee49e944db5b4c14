-- Half the exact sum of two i64, from their bits: those that both have count once, and half of those that differ.
-- Assumes nothing.
use Rattle.std.proofs.Common.{◌≡◌, ℕ, zero, suc, ◌+◌, ◌-◌, ◌*◌, ◌/◌, ◌%◌, ◌^◌, ◌<◌, ◌≤◌, true, false, ltb, ℤ, pos, negsuc, ◌+ℤ◌, neg_ℤ, nat_abs, refl, ap, ◌∙◌, add_comm, arith, to_z-of_z, w64, SFits, to_z, of_z, ltb-false, ltb-true, le-ltb, lt-ltb}
use lib.IntN.{sub_ℕ}
use lib.Signed.{mag, lt_z, shr_z, mag_shr}
use lib.Bits.{bit_and, bit_xor, and_shr, xor_shr, and_comm, xor_comm, and_mask, xor_add_and, and_lt, xor_lt, and_le_l}
use mir.Facts.{to_z_pos, Fits-of_z, Fits-xor, sfits_to_z}
use mir.ValLaws.{sfits_le}
use Rattle.num.specs.Numbers.{halved, midpoint}
use Rattle.num.proofs.Tests.{by-test}

-- ---- the exact sum
mag-sub_ℕ : (a b : ℕ) → a < 2 ^ 64 → b < 2 ^ 64 → mag (sub_ℕ a b) < 2 ^ 64
mag-sub_ℕ a b h k = by-test (ltb a b) (λ t. rw t (omega arith)) (λ t. rw t (omega arith))

sum-mag : (x y : ℤ) → mag x < 2 ^ 63 → mag y < 2 ^ 63 → mag (x +ℤ y) < 2 ^ 64
sum-mag (pos p) (pos q) h k = omega arith
sum-mag (pos p) (negsuc q) h k = mag-sub_ℕ p (suc q) (omega arith) (omega arith)
sum-mag (negsuc p) (pos q) h k = mag-sub_ℕ q (suc p) (omega arith) (omega arith)
sum-mag (negsuc p) (negsuc q) h k = omega arith

odd-sub_ℕ : (a b : ℕ) → nat_abs (sub_ℕ a b) % 2 ≡ (a + b) % 2
odd-sub_ℕ a b =
    by-test (ltb a b)
    (λ t. let g = ltb-true a b t in rw t (omega arith))
    (λ t. let g = ltb-false a b t in rw t (omega arith))

mag-neg : (k : ℕ) → k ≤ 2 ^ 63 → mag (neg_ℤ (pos k)) < 2 ^ 63
mag-neg zero h = omega arith
mag-neg (suc k) h = omega arith

halved-mag : (z : ℤ) → mag z < 2 ^ 64 → mag (halved z) < 2 ^ 63
halved-mag (pos n) h = omega arith
halved-mag (negsuc n) h = mag-neg (suc n / 2) (omega arith)

down-mag : (z : ℤ) → mag z < 2 ^ 64 → mag (shr_z z 2) < 2 ^ 63
down-mag (pos n) h = omega arith
down-mag (negsuc n) h = omega arith

-- ---- halved down, and then toward zero
down-zero : (z : ℤ) → lt_z (shr_z z 2) (pos 0) ≡ false → shr_z z 2 ≡ halved z
down-zero (pos n) e = refl
down-zero (negsuc n) e = absurd (let x : ◌≡◌ {A = ℕ} 0 1 = cc in omega arith)

up_zero : (z : ℤ) → lt_z (shr_z z 2) (pos 0) ≡ true → shr_z z 2 +ℤ pos (nat_abs z % 2) ≡ halved z
up_zero (pos n) e = absurd (let h = ltb-true (n / 2) 0 e in omega arith)
up_zero (negsuc n) e =
    by-test (ltb (suc n % 2) (suc (n / 2)))
    (λ t. let h = ltb-true (suc n % 2) (suc (n / 2)) t in
    let k : suc n / 2 ≡ suc (suc (n / 2) - suc (suc n % 2)) = omega arith in
    rw (t, k))
    (λ t. let h = ltb-false (suc n % 2) (suc (n / 2)) t in
    let k : suc n / 2 ≡ 0 = omega arith in
    let j : suc n % 2 - suc (n / 2) ≡ 0 = omega arith in
    rw (t, k, j))

-- ---- from the sum of the bits
to_z_high : (n : ℕ) → 2 ^ 63 ≤ n → to_z w64 n ≡ negsuc (2 ^ 64 - suc n)
to_z_high n h = rw (le-ltb n (2 ^ 63))

module _ {p q n m : ℕ} (h : p < 2 ^ 63) (k : q < 2 ^ 63) where
  down_positive : m + n * 2 ≡ p + q → n < 2 ^ 63 → m < 2 ^ 63 → to_z w64 n +ℤ shr_z (to_z w64 m) 2 ≡ shr_z (pos p +ℤ pos q) 2
  down_positive s i j = let e : n + m / 2 ≡ (p + q) / 2 = omega arith in rw (to_z_pos w64 i, to_z_pos w64 j, e)

  down-mixed : m + n * 2 ≡ p + (2 ^ 64 - suc q) → n < 2 ^ 63 → 2 ^ 63 ≤ m → m < 2 ^ 64 → to_z w64 n +ℤ shr_z (to_z w64 m) 2 ≡ shr_z (pos p +ℤ negsuc q) 2
  down-mixed s i j l =
      let d = (2 ^ 64 - suc m) / 2 in
      rw (to_z_pos w64 i, to_z_high m j)
      (by-test (ltb p (suc q))
      (λ t. let g = ltb-true p (suc q) t in
      let f : n < suc d = omega arith in
      let e : suc d - suc n ≡ (suc q - suc p) / 2 = omega arith in
      rw (t, lt-ltb n (suc d) f, e))
      (λ t. let g = ltb-false p (suc q) t in
      let f : suc d ≤ n = omega arith in
      let e : n - suc d ≡ (p - suc q) / 2 = omega arith in
      rw (t, le-ltb n (suc d) f, e)))

  down_negative : m + n * 2 ≡ (2 ^ 64 - suc p) + (2 ^ 64 - suc q) → 2 ^ 63 ≤ n → n < 2 ^ 64 → m < 2 ^ 63
      → to_z w64 n +ℤ shr_z (to_z w64 m) 2 ≡ shr_z (negsuc p +ℤ negsuc q) 2
  down_negative s i l j =
      let f : m / 2 < suc (2 ^ 64 - suc n) = omega arith in
      let e : suc (2 ^ 64 - suc n) - suc (m / 2) ≡ suc (p + q) / 2 = omega arith in
      rw (to_z_high n i, to_z_pos w64 j, lt-ltb (m / 2) (suc (2 ^ 64 - suc n)) f, e)

-- ---- the bits of the two numbers
abbrev pub both : ℤ → ℤ → ℕ
both x y = bit_and (of_z w64 x) (of_z w64 y)

abbrev pub differing : ℤ → ℤ → ℕ
differing x y = bit_xor (of_z w64 x) (of_z w64 y)

-- the sum halved down, as the code has it
abbrev pub down : ℤ → ℤ → ℤ
down x y = to_z w64 (of_z w64 (to_z w64 (both x y) +ℤ to_z w64 (of_z w64 (shr_z (to_z w64 (differing x y)) 2))))

half_mixed : (p q : ℕ) → p < 2 ^ 63 → q < 2 ^ 63 → to_z w64 (both (pos p) (negsuc q)) +ℤ shr_z (to_z w64 (differing (pos p) (negsuc q)))
    2 ≡ shr_z (pos p +ℤ negsuc q) 2
half_mixed p q h k =
    let b = 2 ^ 64 - suc q in
    let t : p / 2 ^ 63 ≡ 0 = omega arith in
    let u : b / 2 ^ 63 ≡ 1 = omega arith in
    let d : bit_xor p b / 2 ^ 63 ≡ 1 = xor_shr p b 63 ∙ rw (t, u) in
    down-mixed h k (xor_add_and p b) (omega (arith, and_le_l p b)) (omega arith) (omega arith)

half_sum : (x y : ℤ) → mag x < 2 ^ 63 → mag y < 2 ^ 63 → to_z w64 (both x y) +ℤ shr_z (to_z w64 (differing x y)) 2 ≡ shr_z (x +ℤ y) 2
half_sum (pos p) (pos q) h k = down_positive h k (xor_add_and p q) (and_lt 63 p q h k) (xor_lt 63 p q h k)
half_sum (pos p) (negsuc q) h k = half_mixed p q h k
half_sum (negsuc p) (pos q) h k = rw (and_comm (2 ^ 64 - suc p) q, xor_comm (2 ^ 64 - suc p) q) (half_mixed q p k h)
half_sum (negsuc p) (negsuc q) h k =
    let a = 2 ^ 64 - suc p in
    let b = 2 ^ 64 - suc q in
    let t : a / 2 ^ 63 ≡ 1 = omega arith in
    let u : b / 2 ^ 63 ≡ 1 = omega arith in
    let n : bit_and a b / 2 ^ 63 ≡ 1 = and_shr a b 63 ∙ rw (t, u) in
    let d : bit_xor a b / 2 ^ 63 ≡ 0 = xor_shr a b 63 ∙ rw (t, u) in
    down_negative h k (xor_add_and a b) (omega arith) (omega arith) (omega arith)

odd-sum : (x y : ℤ) → nat_abs (x +ℤ y) % 2 ≡ (nat_abs x + nat_abs y) % 2
odd-sum (pos p) (pos q) = refl
odd-sum (pos p) (negsuc q) = odd-sub_ℕ p (suc q)
odd-sum (negsuc p) (pos q) = odd-sub_ℕ q (suc p) ∙ rw (add_comm (suc p) q)
odd-sum (negsuc p) (negsuc q) = omega arith

odd-bits : (x : ℤ) → mag x < 2 ^ 63 → nat_abs x % 2 ≡ of_z w64 x % 2
odd-bits (pos p) h = refl
odd-bits (negsuc p) h = omega arith

module _ {x y : ℤ} (f : SFits w64 x) (g : SFits w64 y) where
  pub down_fits : SFits w64 (shr_z (x +ℤ y) 2)
  down_fits = record { sfits = down-mag (x +ℤ y) (sum-mag x y f.sfits g.sfits) }

  pub midpoint-fits : SFits w64 (midpoint x y)
  unfolding midpoint
  midpoint-fits = record { sfits = halved-mag (x +ℤ y) (sum-mag x y f.sfits g.sfits) }

  -- half of what differs is read as it is
  differing_read : to_z w64 (of_z w64 (shr_z (to_z w64 (differing x y)) 2)) ≡ shr_z (to_z w64 (differing x y)) 2
  differing_read = to_z-of_z (sfits_le (mag_shr (to_z w64 (differing x y)) 2) (sfits_to_z (Fits-xor (Fits-of_z f) (Fits-of_z g))))

  pub down-sum : to_z w64 (both x y) +ℤ to_z w64 (of_z w64 (shr_z (to_z w64 (differing x y)) 2)) ≡ shr_z (x +ℤ y) 2
  down-sum = ap (λ z. to_z w64 (both x y) +ℤ z) differing_read ∙ half_sum x y f.sfits g.sfits

  down_read : down x y ≡ shr_z (x +ℤ y) 2
  down_read = rw down-sum (to_z-of_z down_fits)

  differing-odd : bit_and (differing x y) 1 ≡ nat_abs (x +ℤ y) % 2
  differing-odd =
      omega (
        arith,
        and_mask (differing x y) 1,
        xor_add_and (of_z w64 x) (of_z w64 y),
        odd-sum x y,
        odd-bits x f.sfits,
        odd-bits y g.sfits,
      )

  pub midpoint-down : lt_z (down x y) (pos 0) ≡ false → down x y ≡ midpoint x y
  unfolding midpoint
  midpoint-down t = down_read ∙ down-zero (x +ℤ y) (rw down_read at t)

  pub midpoint_up : lt_z (down x y) (pos 0) ≡ true → down x y +ℤ to_z w64 (bit_and (differing x y) 1) ≡ midpoint x y
  unfolding midpoint
  midpoint_up t =
      let e : to_z w64 (bit_and (differing x y) 1) ≡ pos (nat_abs (x +ℤ y) % 2) = ap (to_z w64) differing-odd ∙ to_z_pos w64 (omega arith) in
      rw (down_read, e) (up_zero (x +ℤ y) (rw down_read at t))
