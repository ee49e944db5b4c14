-- The operation of a code: its result fits an i64, and a code past the list has the last.
-- Assumes nothing.
use Rattle.std.proofs.Common.{◌≡◌, ℕ, ◌≤◌, Bool, true, false, cond, eqb, ℤ, pos, ◌+ℤ◌, ◌-ℤ◌, ◌*ℤ◌, sym, refl, arith, w64, SFits, ne_eqb, eqb-true}
use lib.Signed.{le_z, lt_z}
use borrow.Author.Tests.{eqb-false}
use mir.Facts.{sfits_lit}
use Rattle.num.specs.Numbers.{eq_z, midpoint, flag, operation, comparison}
use Rattle.num.proofs.Midpoint.{midpoint-fits}
use Rattle.num.proofs.Tests.{by-test}
use Rattle.num.proofs.Wrap.{wrap-fits}

module _ (code : ℕ) where
  abbrev pub Not : ℕ → Type 0
  Not k = code ≡ k → ⊥

  -- as the last arm of a match has it
  pub operation-last : (x y : ℤ)
      → ((((((((Unit {0} × Not 0) × Not 1) × Not 2) × Not 3) × Not 4) × Not 5) × Not 6) × Not 7) × Not 8
      → operation code x y ≡ midpoint x y
  unfolding operation
  operation-last x y n =
      rw (
        ne_eqb code 0 n.0.0.0.0.0.0.0.0.1,
        ne_eqb code 1 n.0.0.0.0.0.0.0.1,
        ne_eqb code 2 n.0.0.0.0.0.0.1,
        ne_eqb code 3 n.0.0.0.0.0.1,
        ne_eqb code 4 n.0.0.0.0.1,
        ne_eqb code 5 n.0.0.0.1,
        ne_eqb code 6 n.0.0.1,
        ne_eqb code 7 n.0.1,
        ne_eqb code 8 n.1,
      )

cond-fits : (t : Bool) {a b : ℤ} → SFits w64 a → SFits w64 b → SFits w64 (cond t a b)
cond-fits true f g = f
cond-fits false f g = g

flag-fits : (t : Bool) → SFits w64 (flag t)
flag-fits t = cond-fits t (sfits_lit tt) (sfits_lit tt)

pub operation-i64 : (code : ℕ) {x y : ℤ} → SFits w64 x → SFits w64 y → SFits w64 (operation code x y)
unfolding operation
operation-i64 code {x} {y} f g =
    cond-fits (eqb code 0) (wrap-fits (x +ℤ y))
    (cond-fits (eqb code 1) (wrap-fits (x -ℤ y))
    (cond-fits (eqb code 2) (wrap-fits (x *ℤ y))
    (cond-fits (eqb code 3) (cond-fits (le_z x y) f g)
    (cond-fits (eqb code 4) (cond-fits (le_z x y) g f)
    (cond-fits (eqb code 5) f
    (cond-fits (eqb code 6) g
    (cond-fits (eqb code 7) (flag-fits (eq_z x y))
    (cond-fits (eqb code 8) (flag-fits (lt_z x y)) (midpoint-fits f g)))))))))

-- ---- codes 7 and 8 as a test

test_flag : (b : Bool) → eq_z (flag b) (pos 1) ≡ b
test_flag true = refl
test_flag false = refl

pub comparison-operation : (code : ℕ) (x y : ℤ) → 7 ≤ code → code ≤ 8 → comparison code x y ≡ eq_z (operation code x y) (pos 1)
unfolding operation
comparison-operation code x y low high =
    by-test (eqb code 7)
    (λ t. rw (eqb-true code 7 t) (sym (test_flag (eq_z x y))))
    (λ t. let n = eqb-false code 7 t in let e : code ≡ 8 = omega arith in rw e (sym (test_flag (lt_z x y))))
