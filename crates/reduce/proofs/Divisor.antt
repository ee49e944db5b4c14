-- What a variance is divided by: the length less ddof where that fits i64.
-- Assumes nothing.
use Prim.Native.Nat.{ℕ, zero, suc, ◌+◌, ◌-◌, ◌%◌, ◌≤◌, ◌<◌, ◌^◌}
use mathlib.Core.Bool.{true, false, cond, ◌&&◌}
use mathlib.Core.Path.{◌≡◌, refl}
use native.Mathlib.Omega.{arith}
use lib.Dec.{leb, ltb}
use lib.IntN.{ℤ, pos, negsuc, ◌-ℤ◌}
use lib.Signed.{le_z, lt_z}
use mir.Syntax.{w64}
use mir.Val.{SFits}
use borrow.Author.Tests.{leb-true, leb-false, le-leb, lt-leb}
use Rattle.num.specs.Numbers.{wrap, larger_of}
use Rattle.num.proofs.Tests.{by-test}
use Rattle.column.specs.Runs.{to_nat}
use Rattle.num.proofs.Difference.{difference}
use Rattle.reduce.specs.Workers.{divisor_of}

-- a length above ddof, less ddof
above : (a : ℕ) (d : ℤ) → a < 2 ^ 63 → SFits w64 d → le_z (pos a) d ≡ false → (n : ℕ) × (pos a -ℤ d ≡ pos n) × (0 < n) × (n < 2 ^ 64)
above a (pos b) h f t = let l = leb-false a b t in (a - b, difference a b (omega arith), omega arith, omega arith)
above a (negsuc b) h f t = let g = f.sfits in (a + suc b, refl, omega arith, omega arith)

divided : (n : ℕ) → 0 < n → n < 2 ^ 64 → larger_of (wrap (pos n)) (pos 0) ≡ cond (le_z (pos 1) (pos n) && lt_z (pos n) (pos (2 ^ 63))) (pos n) (pos 0)
unfolding wrap
divided n p h =
    let m : n % 2 ^ 64 ≡ n = omega arith in
    by-test (ltb n (2 ^ 63))
    (λ t. rw (m, t, le-leb 1 n p, lt-leb n 0 p))
    (λ t. rw (m, t, le-leb 1 n p))

pub divisor_some : (a : ℕ) (d : ℤ) → a < 2 ^ 63 → SFits w64 d → le_z (pos a) d ≡ false → larger_of (wrap (pos a -ℤ d)) (pos 0) ≡ divisor_of (pos a) d
unfolding divisor_of
divisor_some a d h f t = let x = above a d h f t in rw x.1 (divided x.0 x.2 x.3)

under : (a b : ℕ) → a ≤ b → le_z (pos 1) (pos a -ℤ pos b) ≡ false
under a zero h = let e : a ≡ 0 = omega arith in rw e
under a (suc b) h = by-test (ltb a (suc b)) (λ t. rw t) (λ t. let e : a - suc b ≡ 0 = omega arith in rw (t, e))

pub divisor_none : (a : ℕ) (d : ℤ) → le_z (pos a) d ≡ true → pos 0 ≡ divisor_of (pos a) d
unfolding divisor_of
divisor_none a (pos b) t = rw (under a b (leb-true a b t))
divisor_none a (negsuc b) t = absurd (let z : ◌≡◌ {A = ℕ} 0 1 = cc in omega arith)

-- it is a natural number
pub divisor_natural : (a : ℕ) (d : ℤ) → divisor_of (pos a) d ≡ pos (to_nat (divisor_of (pos a) d))
unfolding divisor_of
divisor_natural a d = natural-cond (pos a -ℤ d)
  where
    natural-cond : (z : ℤ) → cond (le_z (pos 1) z && lt_z z (pos (2 ^ 63))) z (pos 0) ≡ pos (to_nat (cond (le_z (pos 1) z && lt_z z (pos (2 ^ 63))) z (pos 0)))
    natural-cond (pos n) = by-test (leb 1 n && ltb n (2 ^ 63)) (λ t. rw t) (λ t. rw t)
    natural-cond (negsuc n) = refl
