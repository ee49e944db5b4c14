-- The tests of integers, cases on a test, and two tests at once.
-- Assumes nothing.
use Rattle.std.proofs.Common.{◌≡◌, Bool, true, false, not, ◌&&◌, ◌||◌, ltb, ℤ, pos, negsuc, sym, refl, ap, ◌∙◌, ltb-false, ltb-true, eq-eqb, eqb-true, le-leb}
use lib.Signed.{le_z, lt_z}
use borrow.Author.Tests.{lt-leb}
use Rattle.num.specs.Numbers.{eq_z}

pub eq_z-true : (a b : ℤ) → eq_z a b ≡ true → a ≡ b
eq_z-true (pos a) (pos b) e = ap pos (eqb-true a b e)
eq_z-true (pos a) (negsuc b) e = cc
eq_z-true (negsuc a) (pos b) e = cc
eq_z-true (negsuc a) (negsuc b) e = ap negsuc (eqb-true a b e)

pub eq_z-refl : (a : ℤ) → eq_z a a ≡ true
eq_z-refl (pos a) = eq-eqb a a refl
eq_z-refl (negsuc a) = eq-eqb a a refl

-- cases on a test, with what it says
pub by-test {ℓ} : {P : Type ℓ} (b : Bool) → (b ≡ true → P) → (b ≡ false → P) → P
by-test true t f = t refl
by-test false t f = f refl

pub eq_eq_z : (a b : ℤ) → a ≡ b → eq_z a b ≡ true
eq_eq_z a b e = rw (← e) (eq_z-refl a)

pub ne_eq_z : (a b : ℤ) → (a ≡ b → ⊥) → eq_z a b ≡ false
ne_eq_z a b n = by-test (eq_z a b) (λ t. absurd (n (eq_z-true a b t))) (λ t. t)

-- ---- two tests at once

pub both_true : (s t : Bool) → s && t ≡ true → (s ≡ true) × (t ≡ true)
both_true true t e = (refl, e)
both_true false t e = (e, cc)

pub both_false : (s t : Bool) → s || t ≡ false → (s ≡ false) × (t ≡ false)
both_false true t e = (e, cc)
both_false false t e = (refl, e)

-- ---- the two tests of an order: each is the other one's "no"

le_not : (a b : ℤ) → le_z b a ≡ not (lt_z a b)
le_not (pos a) (pos b) = by-test (ltb a b) (λ t. rw t (lt-leb b a (ltb-true a b t))) (λ t. rw t (le-leb b a (ltb-false a b t)))
le_not (pos a) (negsuc b) = refl
le_not (negsuc a) (pos b) = refl
le_not (negsuc a) (negsuc b) = by-test (ltb b a) (λ t. rw t (lt-leb a b (ltb-true b a t))) (λ t. rw t (le-leb a b (ltb-false b a t)))

pub lt_le : (a b : ℤ) {x : Bool} → lt_z a b ≡ x → le_z b a ≡ not x
lt_le a b t = le_not a b ∙ ap not t

pub le_lt : (a b : ℤ) {x : Bool} → le_z a b ≡ x → lt_z b a ≡ not x
le_lt a b t = sym (not-not (lt_z b a)) ∙ ap not (sym (le_not b a) ∙ t)
  where
    not-not : (x : Bool) → not (not x) ≡ x
    not-not true = refl
    not-not false = refl
