-- How far `round` can go. A fraction that is at most 2 ^ j, or above it by less than half a step of the format there, rounds to at most
-- 2 ^ j in size (`round-within`). So sums, products and quotients of values of bounded size are finite, however many are added.
-- Assumes nothing.
use mathlib.Core.Path.{◌≡◌, sym, ap, ◌∙◌, subst}
use mathlib.Core.Logic.{inl, inr}
use mathlib.Core.Bool.{Bool}
use Prim.Native.Nat.{ℕ, suc, ◌+◌, ◌-◌, ◌*◌, ◌/◌, ◌%◌, ◌^◌, ◌≤◌, ◌<◌, zero-le, compare}
use native.Mathlib.Nat.{le-add_left, le_of_lt, zero-mul, add-mul, mul-one, mul-le-mul_left, mul-lt-mul_of_pos_right, le_trans, le_of_eq, lt_of_le_of_lt}
use native.Mathlib.Nat.{eq-or-lt_of_le, mul_comm, mul_assoc, mul_right_comm, mul-le-mul_right, mul-pos, le_of_mul-le-mul_right, lt_of_mul-lt-mul_right}
use native.Mathlib.Nat.{div-le_of_le-mul, div-div-eq-div-mul, pow-succ', le-div_iff_mul-le, one-mul, add-zero, sub-add_cancel, lt_of_not-le}
use native.Mathlib.Omega.{arith}
use native.Mathlib.Decide.{dec_le}
use lib.Arith.{digits_div, digits_mod}
use lib.Pow.{pow-add, pow_pos, pow_mono, pow-lt}
use lib.Dec.{lit≤}
use lib.Ieee.{Float, nan, inf, fin, Format, binary32, binary64, prec, emax, low, up, down, size, nearest, units, round}
use lib.Ieee.Digits.{size-le, size_reaches}
use lib.Ieee.Fits.{kept-lt, nearest-le, round_is, two, two-le_pos}
use lib.Ieee.Exact.{HasValue, units_val}
use lib.Ieee.Nearest.{closest, closest_mono, nearest-ge}
use lib.Ieee.Order.{drop, kept}
use lib.Ieee.Scale.{grid, overflow}
use Rattle.float.specs.Float.{Within}
use Rattle.float.proofs.Compared.{compare_lt}

-- ---- a whole number and less than a half

small-rest : (r u : ℕ) → r * 2 < u → r < u
small-rest r u h = omega arith

closest-whole : (w u r : ℕ) → r * 2 < u → closest (w * u + r) u ≡ w
closest-whole w u r h =
    ap (λ (x : ℕ). nearest x (compare ((w * u + r) % u * 2) u)) (digits_div w (small-rest r u h))
    ∙ ap (λ (x : ℕ). nearest w (compare (x * 2) u)) (digits_mod w (small-rest r u h))
    ∙ ap (nearest w) (compare_lt (r * 2) u h)

-- ---- what `round` keeps, in a format of p digits

pub kept_le : (p n den : ℕ) → kept p n den ≤ 2 ^ p
kept_le p n den =
    let k = drop p n den in
    let u = den * 2 ^ k in
    le_trans (nearest-le (n / u) (compare (n % u * 2) u)) (subst (λ (x : ℕ). x < 2 ^ p) (div-div-eq-div-mul n den (2 ^ k)) (kept-lt p (n / den)))

-- where digits are dropped, the kept number has all of the format's digits
all_in_use : (z p : ℕ) → 0 < p → 0 < z - p → p - 1 + (z - p) < z
all_in_use z p P h = omega arith

pub kept_ge : (p n den : ℕ) → 0 < p → 0 < drop p n den → 2 ^ (p - 1) ≤ kept p n den
kept_ge p n den P K =
    let k = drop p n den in
    let u = den * 2 ^ k in
    let w = n / den in
    let a : 2 ^ (p - 1) * 2 ^ k ≤ w = le_trans (le_of_eq (sym (pow-add 2 (p - 1) k))) (size_reaches w (p - 1 + k) (all_in_use (size w) p P K)) in
    le_trans (subst (λ (x : ℕ). 2 ^ (p - 1) ≤ x) (div-div-eq-div-mul n den (2 ^ k)) ((le-div_iff_mul-le (pow_pos k)).1 a))
    (nearest-ge (n / u) (compare (n % u * 2) u))

below-double : (a b : ℕ) → b < a → a + b < 2 * a
below-double a b h = omega arith

-- z digits, of which p are kept: either the dropped ones leave room below J, or J is just their number and p - 1 more
room : (p J z : ℕ) → z ≤ suc J → z - p ≤ suc J - p
room p J z h = omega arith

above : (p J k : ℕ) → k < suc J - p → p + k ≤ J
above p J k h = omega arith

just : (p J k : ℕ) → 0 < p → p ≤ J → k ≡ suc J - p → p - 1 + k ≡ J
just p J k P h e = omega arith

-- r * 2 ^ p is below 2 ^ J
rest_lt : (p J r : ℕ) → r * 2 ^ p < 2 ^ J → r < 2 ^ J
rest_lt p J r h = lt_of_le_of_lt (le_trans (le_of_eq (sym (mul-one r))) (mul-le-mul_left r (pow_pos p))) h

pub twice : (p : ℕ) → 0 < p → 2 ^ p ≡ 2 * 2 ^ (p - 1)
twice p h = let e : p ≡ suc (p - 1) = omega arith in ap (λ (x : ℕ). 2 ^ x) e ∙ pow-succ' 2 (p - 1)

rest_half : (p J k r : ℕ) → 0 < p → p - 1 + k ≡ J → r * 2 ^ p < 2 ^ J → r * 2 < 2 ^ k
rest_half p J k r P e h =
    lt_of_mul-lt-mul_right (2 ^ (p - 1))
    (subst (λ (x : ℕ). x < 2 ^ k * 2 ^ (p - 1)) (ap (λ (x : ℕ). r * x) (twice p P) ∙ sym (mul_assoc r 2 (2 ^ (p - 1))))
    (subst (λ (x : ℕ). r * 2 ^ p < x) (ap (λ (x : ℕ). 2 ^ x) (sym e) ∙ pow-add 2 (p - 1) k ∙ mul_comm (2 ^ (p - 1)) (2 ^ k)) h))

-- n / den is at most 2 ^ J and a rest r that is too small to count
grid-under : (p n den J r : ℕ) → 0 < p → 0 < den → p ≤ J → r * 2 ^ p < 2 ^ J → n ≤ (2 ^ J + r) * den → kept p n den * 2 ^ drop p n den ≤ 2 ^ J
grid-under p n den J r P D h R N =
    let k = drop p n den in
    let top = 2 ^ J + r in
    let w_lt : n / den < 2 ^ suc J =
    subst (λ (x : ℕ). n / den < x) (sym (pow-succ' 2 J))
    (lt_of_le_of_lt (div-le_of_le-mul den (le_trans N (le_of_eq (mul_comm top den)))) (below-double (2 ^ J) r (rest_lt p J r R))) in
    elim (eq-or-lt_of_le (room p J (size (n / den)) (size-le (n / den) (suc J) w_lt))) [
      | inl e ↦
          let j : p - 1 + k ≡ J = just p J k P h e in
          let split : 2 ^ J ≡ 2 ^ (p - 1) * 2 ^ k = ap (λ (x : ℕ). 2 ^ x) (sym j) ∙ pow-add 2 (p - 1) k in
          le_trans
          (mul-le-mul_right (2 ^ k)
          (le_trans
          (closest_mono n (den * 2 ^ k) top (2 ^ k) (mul-pos D (pow_pos k)) (pow_pos k)
          (le_trans (mul-le-mul_right (2 ^ k) N) (le_of_eq (mul_assoc top den (2 ^ k)))))
          (le_of_eq (ap (λ (x : ℕ). closest (x + r) (2 ^ k)) split ∙ closest-whole (2 ^ (p - 1)) (2 ^ k) r (rest_half p J k r P j R)))))
          (le_of_eq (sym split))
      | inr l ↦
          le_trans (mul-le-mul_right (2 ^ k) (kept_le p n den)) (le_trans (le_of_eq (sym (pow-add 2 p k))) (pow_mono (above p J k l)))
    ]

-- ---- a float that is finite and at most 2 ^ j in size

within_of_value : (x : Float) (s : Bool) (a l j : ℕ) → 0 < l → a ≤ 2 ^ j * l → HasValue x s a l → Within j x
within_of_value (fin t m e) s a l j L h v =
    le_of_mul-le-mul_right
    (le_trans (le_of_eq v.1) (le_trans (mul-le-mul_right (down e) h) (le_of_eq (mul_right_comm (2 ^ j) l (down e)))))
    L
within_of_value nan s a l j L h v = elim v [ ]
within_of_value (inf _) s a l j L h v = elim v [ ]

digits_fit : (f : Format) (j : ℕ) → prec f ≤ j + low f
digits_fit binary32 j = le_trans (lit≤ tt) (le-add_left 149 j)
digits_fit binary64 j = le_trans (lit≤ tt) (le-add_left 1074 j)

no_overflow : (j e l : ℕ) → j ≤ e → j + l < l + suc e
no_overflow j e l h = omega arith

-- num / den is at most 2 ^ j and a rest r that is too small to count: in units of the format's smallest value, what it rounds to
grid_le : (f : Format) (num den j r : ℕ) → 0 < den → r * 2 ^ prec f < 2 ^ j → num ≤ (2 ^ j + r) * den → grid f num den ≤ 2 ^ (j + low f)
grid_le f num den j r D R N =
    let p = prec f in
    let l = low f in
    grid-under p (num * 2 ^ l) den (j + l) (r * 2 ^ l) (two-le_pos p (two f)) D (digits_fit f j)
    (subst (λ (x : ℕ). x < 2 ^ (j + l)) (mul_right_comm r (2 ^ p) (2 ^ l))
    (subst (λ (x : ℕ). r * 2 ^ p * 2 ^ l < x) (sym (pow-add 2 j l)) (mul-lt-mul_of_pos_right R (pow_pos l))))
    (le_trans (mul-le-mul_right (2 ^ l) N)
    (le_of_eq
    (mul_right_comm (2 ^ j + r) den (2 ^ l)
    ∙ ap (λ (x : ℕ). x * den) (add-mul (2 ^ j) r (2 ^ l) ∙ ap (λ (x : ℕ). x + r * 2 ^ l) (sym (pow-add 2 j l))))))

pub under-overflow : (f : Format) (j a : ℕ) → j ≤ emax f → a ≤ 2 ^ (j + low f) → a < overflow f
under-overflow f j a h l = lt_of_le_of_lt l (pow-lt (no_overflow j (emax f) (low f) h))

pub round-within : (f : Format) (s : Bool) (num den j r : ℕ)
    → 0 < den → j ≤ emax f → r * 2 ^ prec f < 2 ^ j → num ≤ (2 ^ j + r) * den → Within j (round f s num den)
round-within f s num den j r D J R N =
    let q = kept (prec f) (num * 2 ^ low f) den in
    let k = drop (prec f) (num * 2 ^ low f) den in
    let under : q * 2 ^ k ≤ 2 ^ (j + low f) = grid_le f num den j r D R N in
    subst (Within j) (sym (round_is f s num den))
    (within_of_value (units f s q k) s (q * 2 ^ k) (2 ^ low f) j (pow_pos (low f)) (le_trans under (le_of_eq (pow-add 2 j (low f))))
    (units_val f s q k (under-overflow f j (q * 2 ^ k) J under)))

-- the same with no rest
no_rest : (j q : ℕ) → 0 * q < 2 ^ j
no_rest j q = subst (λ (x : ℕ). x < 2 ^ j) (sym (zero-mul q)) (pow_pos j)

no_rest_le : (num den j : ℕ) → num ≤ 2 ^ j * den → num ≤ (2 ^ j + 0) * den
no_rest_le num den j h = subst (λ (x : ℕ). num ≤ x * den) (sym (add-zero (2 ^ j))) h

pub grid_at_most : (f : Format) (num den j : ℕ) → 0 < den → num ≤ 2 ^ j * den → grid f num den ≤ 2 ^ (j + low f)
grid_at_most f num den j D N = grid_le f num den j 0 D (no_rest j (2 ^ prec f)) (no_rest_le num den j N)

pub round_at_most : (f : Format) (s : Bool) (num den j : ℕ) → 0 < den → j ≤ emax f → num ≤ 2 ^ j * den → Within j (round f s num den)
round_at_most f s num den j D J N = round-within f s num den j 0 D J (no_rest j (2 ^ prec f)) (no_rest_le num den j N)

-- ---- a fraction that is 2 ^ J at least rounds to no less

whole_at : (k J : ℕ) → k ≤ J → closest (2 ^ J) (2 ^ k) * 2 ^ k ≡ 2 ^ J
whole_at k J h =
    let e : 2 ^ J ≡ 2 ^ (J - k) * 2 ^ k = ap (λ (x : ℕ). 2 ^ x) (sym (sub-add_cancel h)) ∙ pow-add 2 (J - k) k in
    ap (λ (x : ℕ). closest x (2 ^ k) * 2 ^ k) (e ∙ sym (add-zero (2 ^ (J - k) * 2 ^ k)))
    ∙ ap (λ (x : ℕ). x * 2 ^ k) (closest-whole (2 ^ (J - k)) (2 ^ k) 0 (pow_pos k))
    ∙ sym e

grid-above : (p n den J : ℕ) → 0 < p → 0 < den → 2 ^ J * den ≤ n → 2 ^ J ≤ kept p n den * 2 ^ drop p n den
grid-above p n den J P D N =
    let k = drop p n den in
    elim (dec_le k J) [
      | yes l ↦
          le_trans (le_of_eq (sym (whole_at k J l)))
          (mul-le-mul_right (2 ^ k)
          (closest_mono (2 ^ J) (2 ^ k) n (den * 2 ^ k) (pow_pos k) (mul-pos D (pow_pos k))
          (le_trans (le_of_eq (sym (mul_assoc (2 ^ J) den (2 ^ k)))) (mul-le-mul_right (2 ^ k) N))))
      | no n' ↦
          let g : J < k = lt_of_not-le n' in
          le_trans (pow_mono (le_of_lt g))
          (le_trans (le_of_eq (sym (one-mul (2 ^ k))))
          (mul-le-mul_right (2 ^ k) (le_trans (pow_pos (p - 1)) (kept_ge p n den P (lt_of_le_of_lt zero-le g)))))
    ]

-- x is finite, and 1 at least in size
abbrev pub OneOrMore : Float → Type 0
OneOrMore nan = ⊥
OneOrMore (inf s) = ⊥
OneOrMore (fin s m e) = down e ≤ m * up e

one_of_value : (x : Float) (s : Bool) (a l : ℕ) → 0 < l → l ≤ a → HasValue x s a l → OneOrMore x
one_of_value (fin t m e) s a l L h v =
    le_of_mul-le-mul_right
    (le_trans (le_of_eq (mul_comm (down e) l)) (le_trans (mul-le-mul_right (down e) h) (le_of_eq (sym v.1)))) L
one_of_value nan s a l L h v = elim v [ ]
one_of_value (inf _) s a l L h v = elim v [ ]

pub round-one : (f : Format) (s : Bool) (num den j : ℕ) → 0 < den → j ≤ emax f → num ≤ 2 ^ j * den → den ≤ num → OneOrMore (round f s num den)
round-one f s num den j D J N O =
    let q = kept (prec f) (num * 2 ^ low f) den in
    let k = drop (prec f) (num * 2 ^ low f) den in
    subst OneOrMore (sym (round_is f s num den))
    (one_of_value (units f s q k) s (q * 2 ^ k) (2 ^ low f) (pow_pos (low f))
    (grid-above (prec f) (num * 2 ^ low f) den (low f) (two-le_pos (prec f) (two f)) D
    (le_trans (le_of_eq (mul_comm (2 ^ low f) den)) (mul-le-mul_right (2 ^ low f) O)))
    (units_val f s q k (under-overflow f j (q * 2 ^ k) J (grid_at_most f num den j D N))))
