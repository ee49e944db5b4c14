-- The operations on values of bounded size. A product's bound is the product of the bounds. A sum with a term that is far smaller
-- keeps the bound of the other, so any number of such terms can be added (`add-within`). A quotient by a value that is 1 at least
-- keeps its bound. So none of them is a NaN or an infinity.
-- Assumes nothing.
use mathlib.Core.Path.{sym, ap, ◌∙◌, subst}
use mathlib.Core.Bool.{Bool, true, false, not, cond, beq, ◌&&◌}
use Prim.Native.Nat.{ℕ, suc, ◌+◌, ◌-◌, ◌*◌, ◌^◌, ◌≤◌, ◌<◌}
use native.Mathlib.Nat.{le_trans, le_of_eq, lt_of_lt_of_le, add_comm, add-le-add, add-mul, mul-one, mul_comm, mul_assoc, mul-mul-mul_comm, mul-le-mul}
use native.Mathlib.Nat.{mul-le-mul_left, mul-le-mul_right, mul-pos, zero-mul, lt_irrefl}
use native.Mathlib.Omega.{arith}
use lib.Dec.{T, ltb, eqb, eqb→eq}
use lib.IntN.{ℤ, pos, negsuc, nat_abs}
use lib.Pow.{pow-add, pow_pos, pow-lt}
use lib.Ieee.{Float, nan, inf, fin, Format, prec, emax, unlike, up, down, round, sum, add, sub, mul, div, of_int}
use lib.Ieee.Fits.{down_pos}
use Rattle.float.specs.Float.{Within}
use Rattle.float.proofs.Rounding.{OneOrMore, round-within, round_at_most, round-one}

-- ---- integers

pub of_int-within : (f : Format) (z : ℤ) (j : ℕ) → j ≤ emax f → nat_abs z ≤ 2 ^ j → Within j (of_int f z)
unfolding of_int
of_int-within f (pos n) j J h = round_at_most f false n 1 j (pow_pos 0) J (le_trans h (le_of_eq (sym (mul-one (2 ^ j)))))
of_int-within f (negsuc n) j J h = round_at_most f true (suc n) 1 j (pow_pos 0) J (le_trans h (le_of_eq (sym (mul-one (2 ^ j)))))

pub of_int-one : (f : Format) (z : ℤ) (j : ℕ) → j ≤ emax f → nat_abs z ≤ 2 ^ j → 0 < nat_abs z → OneOrMore (of_int f z)
unfolding of_int
of_int-one f (pos n) j J h p = round-one f false n 1 j (pow_pos 0) J (le_trans h (le_of_eq (sym (mul-one (2 ^ j))))) p
of_int-one f (negsuc n) j J h p = round-one f true (suc n) 1 j (pow_pos 0) J (le_trans h (le_of_eq (sym (mul-one (2 ^ j))))) p

-- ---- products

pub mul-within : (f : Format) (i j : ℕ) (x y : Float) → i + j ≤ emax f → Within i x → Within j y → Within (i + j) (mul f x y)
unfolding mul
mul-within f i j (fin s m e) (fin t n d) J h k =
    round_at_most f (unlike s t) (m * up e * (n * up d)) (down e * down d) (i + j) (mul-pos (down_pos e) (down_pos d)) J
    (le_trans (mul-le-mul h k)
    (le_of_eq (mul-mul-mul_comm (2 ^ i) (down e) (2 ^ j) (down d) ∙ ap (λ (x : ℕ). x * (down e * down d)) (sym (pow-add 2 i j)))))
mul-within f i j nan y J h k = elim h [ ]
mul-within f i j (inf _) y J h k = elim h [ ]
mul-within f i j (fin s m e) nan J h k = elim k [ ]
mul-within f i j (fin s m e) (inf _) J h k = elim k [ ]

-- ---- sums

cond-within : (j : ℕ) (b : Bool) (x y : Float) → Within j x → Within j y → Within j (cond b x y)
cond-within j true x y h k = h
cond-within j false x y h k = k

less_l : (a b m : ℕ) → a + b ≤ m → b - a ≤ m
less_l a b m h = omega arith

less_r : (a b m : ℕ) → a + b ≤ m → a - b ≤ m
less_r a b m h = omega arith

-- the two sizes together are at most 2 ^ j and a rest that is too small to count
sum-within : (f : Format) (s : Bool) (a : ℕ) (t : Bool) (b c j r : ℕ)
    → 0 < c → j ≤ emax f → r * 2 ^ prec f < 2 ^ j → a + b ≤ (2 ^ j + r) * c → Within j (sum f s a t b c)
unfolding sum
sum-within f s a t b c j r C J R h =
    let m = (2 ^ j + r) * c in
    cond-within j (beq s t) (round f s (a + b) c) (cond (ltb a b) (round f t (b - a) c) (round f (s && ltb b a) (a - b) c))
    (round-within f s (a + b) c j r C J R h)
    (cond-within j (ltb a b) (round f t (b - a) c) (round f (s && ltb b a) (a - b) c)
    (round-within f t (b - a) c j r C J R (less_l a b m h))
    (round-within f (s && ltb b a) (a - b) c j r C J R (less_r a b m h)))

-- x * dd of an x that is at most p * de
over : (x p de dd : ℕ) → x ≤ p * de → x * dd ≤ p * (de * dd)
over x p de dd h = le_trans (mul-le-mul_right dd h) (le_of_eq (mul_assoc p de dd))

-- two fractions over one denominator
both : (x y p q de dd : ℕ) → x ≤ p * de → y ≤ q * dd → x * dd + y * de ≤ (p + q) * (de * dd)
both x y p q de dd h k =
    le_trans (add-le-add (over x p de dd h) (over y q dd de k))
    (le_of_eq (ap (λ (d : ℕ). p * (de * dd) + q * d) (mul_comm dd de) ∙ sym (add-mul p q (de * dd))))

far_below : (f : Format) (i j : ℕ) → i + prec f < j → 2 ^ i * 2 ^ prec f < 2 ^ j
far_below f i j h = subst (λ (x : ℕ). x < 2 ^ j) (pow-add 2 i (prec f)) (pow-lt h)

pub add-within : (f : Format) (i j : ℕ) (x y : Float) → i + prec f < j → j ≤ emax f → Within j x → Within i y → Within j (add f x y)
unfolding add
add-within f i j (fin s m e) (fin t n d) I J h k =
    sum-within f s (m * up e * down d) t (n * up d * down e) (down e * down d) j (2 ^ i)
    (mul-pos (down_pos e) (down_pos d)) J (far_below f i j I)
    (both (m * up e) (n * up d) (2 ^ j) (2 ^ i) (down e) (down d) h k)
add-within f i j nan y I J h k = elim h [ ]
add-within f i j (inf _) y I J h k = elim h [ ]
add-within f i j (fin s m e) nan I J h k = elim k [ ]
add-within f i j (fin s m e) (inf _) I J h k = elim k [ ]

-- x - y, where y is the larger
pub sub_within : (f : Format) (i j : ℕ) (x y : Float) → i + prec f < j → j ≤ emax f → Within i x → Within j y → Within j (sub f x y)
unfolding sub
sub_within f i j (fin s m e) (fin t n d) I J h k =
    sum-within f s (m * up e * down d) (not t) (n * up d * down e) (down e * down d) j (2 ^ i)
    (mul-pos (down_pos e) (down_pos d)) J (far_below f i j I)
    (subst (λ (x : ℕ). m * up e * down d + n * up d * down e ≤ x * (down e * down d)) (add_comm (2 ^ i) (2 ^ j))
    (both (m * up e) (n * up d) (2 ^ i) (2 ^ j) (down e) (down d) h k))
sub_within f i j nan y I J h k = elim h [ ]
sub_within f i j (inf _) y I J h k = elim h [ ]
sub_within f i j (fin s m e) nan I J h k = elim k [ ]
sub_within f i j (fin s m e) (inf _) I J h k = elim k [ ]

-- ---- quotients

not-zero : (n u d : ℕ) → 0 < d → d ≤ n * u → T (eqb n 0) → ⊥
not-zero n u d D h t = lt_irrefl 0 (lt_of_lt_of_le D (le_trans h (le_of_eq (ap (λ (x : ℕ). x * u) (eqb→eq n 0 t) ∙ zero-mul u))))

second : (j : ℕ) (b : Bool) (x y : Float) → (T b → ⊥) → Within j y → Within j (cond b x y)
second j true x y n h = absurd (n tt)
second j false x y n h = h

pub div-within : (f : Format) (j : ℕ) (x y : Float) → j ≤ emax f → Within j x → OneOrMore y → Within j (div f x y)
unfolding div
div-within f j (fin s m e) (fin t n d) J h k =
    second j (eqb n 0) (cond (eqb m 0) nan (inf (unlike s t))) (round f (unlike s t) (m * up e * down d) (n * up d * down e))
    (not-zero n (up d) (down d) (down_pos d) k)
    (round_at_most f (unlike s t) (m * up e * down d) (n * up d * down e) j (mul-pos (lt_of_lt_of_le (down_pos d) k) (down_pos e)) J
    (le_trans (over (m * up e) (2 ^ j) (down e) (down d) h)
    (mul-le-mul_left (2 ^ j) (le_trans (le_of_eq (mul_comm (down e) (down d))) (mul-le-mul_right (down e) k)))))
div-within f j nan y J h k = elim h [ ]
div-within f j (inf _) y J h k = elim h [ ]
div-within f j (fin s m e) nan J h k = elim k [ ]
div-within f j (fin s m e) (inf _) J h k = elim k [ ]
