-- The run that covers a position is the first that ends above it.
-- Assumes nothing.
use Rattle.std.proofs.Common.{◌≡◌, ℕ, suc, ◌+◌, ◌<◌, ◌≤◌, true, false, List, [], ◌∷◌, length, ℤ, pos, negsuc, refl, ap, ◌∙◌, arith, ltb-true}
use Rattle.std.specs.Prelude.{Some, None}
use lib.Signed.{le_z, lt_z}
use Rattle.num.proofs.Tests.{by-test, lt_le}
use Rattle.column.specs.Questions.{ends_valid}
use Rattle.column.specs.Runs.{to_nat}
use Rattle.column.specs.Workers.{RisingEnds}
use Rattle.column.proofs.Ends.{rising}
use Rattle.slice.specs.Calls.{first_where, first_end_above, covering_from, covering}

module _ (p : ℤ) where
  -- from a position on that is not above p
  inside-from : (i : ℕ) (before : ℤ) (es : List ℤ) → le_z before p ≡ true → first_end_above p es < length es
      → covering_from i before es p ≡ Some (i + first_end_above p es)
  unfolding first_end_above first_where
  inside-from i before [] b h = let z : ⊥ = omega arith in absurd z
  inside-from i before (e ∷ es) b h =
      by-test (lt_z p e)
      (λ t. rw (b, t) (ap Some (omega arith)))
      (λ t. let k : suc (first_end_above p es) < suc (length es) = rw t at h in
      rw (b, t) (inside-from (suc i) e es (lt_le p e t) (omega arith) ∙ ap Some (omega arith)))

  past-from : (i : ℕ) (before : ℤ) (es : List ℤ) → le_z before p ≡ true → length es ≤ first_end_above p es → covering_from i before es p ≡ None
  unfolding first_end_above first_where
  past-from i before [] b h = refl
  past-from i before (e ∷ es) b h =
      by-test (lt_z p e)
      (λ t. absurd (let k : suc (length es) ≤ 0 = rw t at h in let z : ⊥ = omega arith in z))
      (λ t. let k : suc (length es) ≤ suc (first_end_above p es) = rw t at h in
      rw (b, t) (past-from (suc i) e es (lt_le p e t) (omega arith)))

  negative_from : (i q : ℕ) (es : List ℤ) → lt_z p (pos 0) ≡ true → RisingEnds q es → covering_from i (pos q) es p ≡ None
  negative_from i q [] t r = refl
  negative_from i q (e ∷ es) t r = rw (not-from q) (ap (λ (b : ℤ). covering_from (suc i) b es p) r.0 ∙ negative_from (suc i) (to_nat e) es t r.2)
    where
      below : (z : ℤ) (n : ℕ) → lt_z z (pos 0) ≡ true → le_z (pos n) z ≡ false
      below (pos m) n h = let z : ⊥ = omega (arith, ltb-true m 0 h) in absurd z
      below (negsuc m) n h = refl

      not-from : (n : ℕ) → le_z (pos n) p ≡ false
      not-from n = below p n t

  module _ (es : List ℤ) where
    pub covering-inside : lt_z p (pos 0) ≡ false → first_end_above p es < length es → covering es p ≡ Some (first_end_above p es)
    unfolding covering
    covering-inside t h = inside-from 0 (pos 0) es (lt_le p (pos 0) t) h ∙ ap Some (omega arith)

    pub covering-past : lt_z p (pos 0) ≡ false → length es ≤ first_end_above p es → covering es p ≡ None
    unfolding covering
    covering-past t h = past-from 0 (pos 0) es (lt_le p (pos 0) t) h

    pub covering_negative : lt_z p (pos 0) ≡ true → ends_valid es ≡ None → covering es p ≡ None
    unfolding covering
    covering_negative t v = negative_from 0 0 es t (rising es v)
