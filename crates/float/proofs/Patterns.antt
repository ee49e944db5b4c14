-- The bits of a rounded fraction: the sign, and then the number of dropped digits times the weight of the exponent's field, and what was
-- kept. The leading digit of what was kept adds one to the field, and so does a carry out of the rounding. At an integer n of 64 binary
-- digits, z of them leading zeros, that is (1085 - z) * 2 ^ 52 and n * 2 ^ z / 2 ^ 11 to the nearest (`size-bits`).
-- Assumes nothing.
use mathlib.Core.Path.{◌≡◌, refl, sym, ap, ◌∙◌, subst}
use mathlib.Core.Logic.{◌⊎◌, inl, inr}
use mathlib.Core.Bool.{Bool, true, false, not, cond}
use Prim.Native.Nat.{ℕ, zero, suc, ◌+◌, ◌-◌, ◌*◌, ◌/◌, ◌^◌, ◌≤◌, ◌<◌}
use native.Mathlib.Nat.{add_comm, le-add_left, suc-add, mul-pos, le_of_lt, le_trans, le_of_eq, le_antisymm, lt_of_lt_of_le, lt_of_not-le, not-le_of_lt}
use native.Mathlib.Nat.{eq-or-lt_of_le, eq-zero-or-pos, mul_assoc, mul-one, one-mul, add_assoc, zero-add, mul-le-mul_right, mul-div_cancel, div-one}
use native.Mathlib.Omega.{arith}
use lib.Dec.{T, ltb, lit≤}
use lib.IntN.{ℤ, pos, negsuc}
use lib.Pow.{pow-add, pow_pos, pow_mono, pow-lt, shl_lt}
use lib.Ieee.{Float, nan, inf, fin, Format, binary64, prec, low, up, down, size, odd, units, round, is_nan, hid, top, to_bits, of_bits, nan_bits, of_int}
use lib.Ieee.Digits.{size-lt, size-le}
use lib.Ieee.Bits.{to_bits-lt, of_bits-to_bits, nan_bits_is}
use lib.Ieee.Fits.{of_int-fits, round_is, two, two-le_pos, down_pos}
use lib.Ieee.Exact.{HasValue, units_val}
use lib.Ieee.Nearest.{closest, closest_same}
use lib.Ieee.Order.{drop, kept}
use lib.Ieee.Scale.{grid, overflow}
use mir.Syntax.{w64}
use mir.Val.{Fits}
use Rattle.float.specs.Float.{converted}
use Rattle.float.proofs.Rounding.{twice, kept_le, kept_ge, grid_at_most, under-overflow}

-- ---- the digits of a number

size_gt : (n j : ℕ) → 2 ^ j ≤ n → j < size n
size_gt n j h = lt_of_not-le (λ (g : size n ≤ j). not-le_of_lt (lt_of_lt_of_le (size-lt n) (pow_mono g)) h)

size_exact : (j n : ℕ) → 2 ^ j ≤ n → n < 2 ^ suc j → size n ≡ suc j
size_exact j n lo hi = le_antisymm (size-le n (suc j) hi) (size_gt n j lo)

-- ---- the bits of a finite value, by its size in units of the format's smallest value

abbrev written : ℕ → ℕ → ℕ
written p a = (size a - p) * 2 ^ (p - 1) + a / 2 ^ (size a - p)

to_bits-value : (f : Format) (x : Float) (s : Bool) (a : ℕ) → HasValue x s a (2 ^ low f) → to_bits f x ≡ cond s (top f) 0 + written (prec f) a
unfolding to_bits
to_bits-value f (fin t m e) s a v =
    let n : m * up e * 2 ^ low f / down e ≡ a = ap (λ (x : ℕ). x / down e) v.1 ∙ mul-div_cancel a (down_pos e) in
    ap (λ (x : ℕ). cond t (top f) 0 + (size x - prec f) * hid f + x / 2 ^ (size x - prec f)) n
    ∙ add_assoc (cond t (top f) 0) ((size a - prec f) * hid f) (a / 2 ^ (size a - prec f))
    ∙ ap (λ (b : Bool). cond b (top f) 0 + written (prec f) a) v.0
to_bits-value f nan s a v = elim v [ ]
to_bits-value f (inf _) s a v = elim v [ ]

-- ---- what is kept, q, and the k digits that were dropped, are written next to each other

same_digits : (z p k : ℕ) → z ≤ p + k → (0 < k → p - 1 + k < z) → z - p ≡ k
same_digits z p k h l = elim (eq-zero-or-pos k) [ inl e ↦ None z p k h e | inr g ↦ all z p k h (l g) ]
  where
    None : (z p k : ℕ) → z ≤ p + k → k ≡ 0 → z - p ≡ k
    None z p k h e = omega arith

    all : (z p k : ℕ) → z ≤ p + k → p - 1 + k < z → z - p ≡ k
    all z p k h g = omega arith

one_more : (p k z : ℕ) → z ≡ suc (p + k) → z - p ≡ suc k
one_more p k z e = omega arith

shift : (p k : ℕ) → 0 < p → p + k ≡ p - 1 + suc k
shift p k h = omega arith

carried : (k h w : ℕ) → w ≡ 2 * h → suc k * h + h ≡ k * h + w
carried k h w e = omega arith

written_is : (p q k : ℕ) → 0 < p → q ≤ 2 ^ p → (0 < k → 2 ^ (p - 1) ≤ q) → written p (q * 2 ^ k) ≡ k * 2 ^ (p - 1) + q
written_is p q k P a b = go (eq-or-lt_of_le a)
  where
    go : (q ≡ 2 ^ p) ⊎ (q < 2 ^ p) → written p (q * 2 ^ k) ≡ k * 2 ^ (p - 1) + q
    go (inl e) =
        let n : q * 2 ^ k ≡ 2 ^ (p + k) = ap (λ (x : ℕ). x * 2 ^ k) e ∙ sym (pow-add 2 p k) in
        let z : size (2 ^ (p + k)) - p ≡ suc k =
        one_more p k (size (2 ^ (p + k))) (size_exact (p + k) (2 ^ (p + k)) (le_of_eq refl) (pow-lt (le_of_eq refl))) in
        ap (written p) n
        ∙ ap (λ (x : ℕ). x * 2 ^ (p - 1) + 2 ^ (p + k) / 2 ^ x) z
        ∙ ap (λ (x : ℕ). suc k * 2 ^ (p - 1) + x / 2 ^ suc k) (ap (λ (x : ℕ). 2 ^ x) (shift p k P) ∙ pow-add 2 (p - 1) (suc k))
        ∙ ap (λ (x : ℕ). suc k * 2 ^ (p - 1) + x) (mul-div_cancel (2 ^ (p - 1)) (pow_pos (suc k)))
        ∙ carried k (2 ^ (p - 1)) (2 ^ p) (twice p P)
        ∙ ap (λ (x : ℕ). k * 2 ^ (p - 1) + x) (sym e)
    go (inr l) =
        let z : size (q * 2 ^ k) - p ≡ k =
        same_digits (size (q * 2 ^ k)) p k (size-le (q * 2 ^ k) (p + k) (shl_lt p k l))
        (λ g. size_gt (q * 2 ^ k) (p - 1 + k) (le_trans (le_of_eq (pow-add 2 (p - 1) k)) (mul-le-mul_right (2 ^ k) (b g)))) in
        ap (λ (x : ℕ). x * 2 ^ (p - 1) + q * 2 ^ k / 2 ^ x) z ∙ ap (λ (x : ℕ). k * 2 ^ (p - 1) + x) (mul-div_cancel q (pow_pos k))

round-bits : (f : Format) (s : Bool) (num den : ℕ) → grid f num den < overflow f
    → to_bits f (round f s num den) ≡ cond s (top f) 0 + (drop (prec f) (num * 2 ^ low f) den * hid f + kept (prec f) (num * 2 ^ low f) den)
round-bits f s num den h =
    let p = prec f in
    let P : 0 < p = two-le_pos p (two f) in
    let n = num * 2 ^ low f in
    let q = kept p n den in
    let k = drop p n den in
    ap (to_bits f) (round_is f s num den)
    ∙ to_bits-value f (units f s q k) s (q * 2 ^ k) (units_val f s q k h)
    ∙ ap (λ (x : ℕ). cond s (top f) 0 + x) (written_is p q k P (kept_le p n den) (kept_ge p n den P))

-- ---- an integer of at most 64 digits

fits-small : (n : ℕ) → n ≤ 2 ^ 64 → grid binary64 n 1 < overflow binary64
fits-small n h =
    under-overflow binary64 64 (grid binary64 n 1) (lit≤ tt) (grid_at_most binary64 n 1 64 (pow_pos 0) (le_trans h (le_of_eq (sym (mul-one (2 ^ 64))))))

-- the sign is one bit
pub sign_bits : (n : ℕ) → n ≤ 2 ^ 64 → to_bits binary64 (round binary64 true n 1) ≡ to_bits binary64 (round binary64 false n 1) + 2 ^ 63
sign_bits n h =
    let x = drop 53 (n * 2 ^ 1074) 1 * 2 ^ 52 + kept 53 (n * 2 ^ 1074) 1 in
    round-bits binary64 true n 1 (fits-small n h)
    ∙ add_comm (2 ^ 63) x
    ∙ ap (λ (y : ℕ). y + 2 ^ 63) (sym (zero-add x) ∙ sym (round-bits binary64 false n 1 (fits-small n h)))

same_fraction : (n a b z k : ℕ) → a + b ≡ z + k → n * 2 ^ a * 2 ^ b ≡ n * 2 ^ z * (1 * 2 ^ k)
same_fraction n a b z k e =
    mul_assoc n (2 ^ a) (2 ^ b)
    ∙ ap (λ (x : ℕ). n * x) (sym (pow-add 2 a b) ∙ ap (λ (x : ℕ). 2 ^ x) e ∙ pow-add 2 z k)
    ∙ sym (mul_assoc n (2 ^ z) (2 ^ k))
    ∙ ap (λ (x : ℕ). n * 2 ^ z * x) (sym (one-mul (2 ^ k)))

all_of_it : (z j : ℕ) → z + suc j ≡ 64 → 1074 + 11 ≡ z + (1085 - z)
all_of_it z j e = omega arith

dropped : (z j s : ℕ) → z + suc j ≡ 64 → s ≡ suc (j + 1074) → s - 53 ≡ 1085 - z
dropped z j s e h = omega arith

-- n has z leading zeros, and its highest digit at j
module _ (n z j : ℕ) (e : z + suc j ≡ 64) (lo : 2 ^ j ≤ n) (hi : n < 2 ^ suc j) where
  n_small : n ≤ 2 ^ 64
  n_small = le_of_lt (lt_of_lt_of_le hi (pow_mono (le_trans (le-add_left (suc j) z) (le_of_eq e))))

  drop_is : drop 53 (n * 2 ^ 1074) 1 ≡ 1085 - z
  drop_is =
      dropped z j (size (n * 2 ^ 1074 / 1)) e
      (ap size (div-one (n * 2 ^ 1074))
      ∙ size_exact (j + 1074) (n * 2 ^ 1074)
      (le_trans (le_of_eq (pow-add 2 j 1074)) (mul-le-mul_right (2 ^ 1074) lo))
      (subst (λ (x : ℕ). n * 2 ^ 1074 < 2 ^ x) (suc-add j 1074) (shl_lt (suc j) 1074 hi)))

  kept_is : kept 53 (n * 2 ^ 1074) 1 ≡ closest (n * 2 ^ z) 2048
  kept_is =
      ap (λ (k : ℕ). closest (n * 2 ^ 1074) (1 * 2 ^ k)) drop_is
      ∙ closest_same (n * 2 ^ 1074) (1 * 2 ^ (1085 - z)) (n * 2 ^ z) 2048
      (mul-pos (pow_pos 0) (pow_pos (1085 - z))) (pow_pos 11) (same_fraction n 1074 11 z (1085 - z) (all_of_it z j e))

  pub size-bits : to_bits binary64 (round binary64 false n 1) ≡ (1085 - z) * 2 ^ 52 + closest (n * 2 ^ z) 2048
  size-bits =
      round-bits binary64 false n 1 (fits-small n n_small)
      ∙ zero-add (drop 53 (n * 2 ^ 1074) 1 * 2 ^ 52 + kept 53 (n * 2 ^ 1074) 1)
      ∙ ap (λ (k : ℕ). k * 2 ^ 52 + kept 53 (n * 2 ^ 1074) 1) drop_is
      ∙ ap (λ (q : ℕ). (1085 - z) * 2 ^ 52 + q) kept_is

-- ---- no fraction rounds to a NaN
odd_no_nan : (d : ℕ) (s : Bool) (q k l : ℕ) → T (not (is_nan (odd d s q k l)))
unfolding odd is_nan
odd_no_nan d s zero k l = tt
odd_no_nan d s (suc q) k l = tt

cond_no_nan : (b : Bool) (x : Float) (s : Bool) → T (not (is_nan x)) → T (not (is_nan (cond b x (inf s))))
unfolding is_nan
cond_no_nan true x s h = h
cond_no_nan false x s h = tt

units_no_nan : (f : Format) (s : Bool) (q k : ℕ) → T (not (is_nan (units f s q k)))
unfolding units
units_no_nan f s q k = cond_no_nan (ltb (q * 2 ^ k) (overflow f)) (odd (suc (prec f)) s q k (low f)) s (odd_no_nan (suc (prec f)) s q k (low f))

round_no_nan : (f : Format) (s : Bool) (num den : ℕ) → T (not (is_nan (round f s num den)))
round_no_nan f s num den =
    subst (λ (x : Float). T (not (is_nan x))) (sym (round_is f s num den))
    (units_no_nan f s (kept (prec f) (num * 2 ^ low f) den) (drop (prec f) (num * 2 ^ low f) den))

pub of_int_no_nan : (f : Format) (z : ℤ) → T (not (is_nan (of_int f z)))
unfolding of_int
of_int_no_nan f (pos n) = round_no_nan f false n 1
of_int_no_nan f (negsuc n) = round_no_nan f true (suc n) 1

-- ---- an i64's float has 64 bits, and they are read back as it

pub bits_fit : (z : ℤ) → Fits w64 (to_bits binary64 (converted z))
unfolding converted
bits_fit z = record { fits = to_bits-lt binary64 (of_int binary64 z) (of_int-fits binary64 z) }

module _ (z : ℤ) {n : ℕ} (e : n ≡ to_bits binary64 (converted z)) where
  pub bits_back : of_bits binary64 n ≡ converted z
  unfolding converted
  bits_back = ap (of_bits binary64) e ∙ of_bits-to_bits binary64 (of_int binary64 z) (of_int-fits binary64 z)

  pub bits_no_nan : T (not (nan_bits binary64 n))
  unfolding converted
  bits_no_nan = rw (nan_bits_is binary64 n, bits_back) (of_int_no_nan binary64 z)
