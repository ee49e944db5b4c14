-- Where a key stands: its lowest position.
-- Assumes nothing.
use Prim.Native.Nat.{ℕ, zero, suc, ◌+◌, ◌-◌, ◌≤◌, ◌<◌}
use mathlib.Core.Bool.{Bool, true, false, cond, ◌||◌}
use mathlib.Core.List.{List, [], ◌∷◌}
use mathlib.Core.Path.{◌≡◌, sym, ap, ◌∙◌}
use native.Mathlib.Omega.{arith}
use lib.Dec.{eqb, ltb}
use lib.ListN.{length, get_or}
use borrow.Author.Tests.{eqb-false, eq-eqb, ne_eqb, ltb-true, ltb-false, lt-ltb, le-ltb}
use Rattle.num.proofs.Tests.{by-test}
use Rattle.column.specs.Lists.{any}
use Rattle.batch_index.specs.Calls.{lowest}
use Rattle.batch_index.specs.Workers.{Others, Skipped, NextPosition}

-- a test does not say both
pub no_test : {P : Type 0} {t : Bool} → t ≡ true → t ≡ false → P
no_test e f = let z : ◌≡◌ {A = ℕ} 0 1 = cc in let y : ⊥ = omega arith in absurd y

-- a position is the lowest if the key stands at none below it, and there, or the keys end there
pub lowest_is : (key : ℕ) (ks : List ℕ) (i : ℕ) → i ≤ length ks → ((j : ℕ) → j < i → get_or ks j 0 ≡ key → ⊥) → (i < length ks → get_or ks i 0 ≡ key)
    → i ≡ lowest key ks
unfolding lowest
lowest_is key [] i h b t = omega arith
lowest_is key (k ∷ ks) zero h b t = rw (eq-eqb key k (sym (t (omega arith))))
lowest_is key (k ∷ ks) (suc i) h b t =
    rw (ne_eqb key k (λ e. b 0 (omega arith) (sym e))) (ap suc (lowest_is key ks i (omega arith) (λ j l e. b (suc j) (omega arith) e) (λ l. t
    (omega arith))))

lowest_step : (t : Bool) (n m : ℕ) → n ≤ m → cond t 0 (suc n) ≤ suc m
lowest_step true n m h = omega arith
lowest_step false n m h = omega arith

-- and no position is after the last key's by more than one
pub lowest-within : (key : ℕ) (ks : List ℕ) → lowest key ks ≤ length ks
unfolding lowest
lowest-within key [] = omega arith
lowest-within key (k ∷ ks) = lowest_step (eqb key k) (lowest key ks) (length ks) (lowest-within key ks)

-- is it among them
pub found-step : (t : Bool) (n m : ℕ) (r : Bool) → ltb n m ≡ r → ltb (cond t 0 (suc n)) (suc m) ≡ t || r
found-step true n m r e = lt-ltb 0 (suc m) (omega arith)
found-step false n m r e =
    by-test (ltb n m) (λ t. lt-ltb (suc n) (suc m) (omega (arith, ltb-true n m t)) ∙ sym t)
    (λ t. le-ltb (suc n) (suc m) (omega (arith, ltb-false n m t)) ∙ sym t)
    ∙ e

pub lowest-any : (key : ℕ) (ks : List ℕ) → ltb (lowest key ks) (length ks) ≡ any (eqb key) ks
unfolding lowest
lowest-any key [] = le-ltb 0 0 (omega arith)
lowest-any key (k ∷ ks) = found-step (eqb key k) (lowest key ks) (length ks) (any (eqb key) ks) (lowest-any key ks)

-- ---- one key after another

module _ (key : ℕ) (ks : List ℕ) where
  others-more : (n m i : ℕ) → Others key ks n m → Others key ks m i → Others key ks n i
  others-more n m i f g j h l = by-test (ltb j m) (λ t. f j h (ltb-true j m t)) (λ t. g j (ltb-false j m t) l)

  others-one : (i : ℕ) → eqb key (get_or ks i 0) ≡ false → Others key ks i (i + 1)
  others-one i f j h l = let e : j ≡ i = omega arith in rw e f

  others-none : (n : ℕ) → Others key ks n n
  others-none n j h l = let z : ⊥ = omega arith in absurd z

  pub skip-start : {n : ℕ} → n ≤ length ks → Skipped key ks n n
  skip-start {n} h = record { after = omega arith; within = h; before = others-none n }

  module _ {n i : ℕ} (s : Skipped key ks n i) where
    pub next-found : get_or ks i 0 ≡ key → NextPosition key ks n i
    next-found e = record { after = s.after; within = s.within; before = s.before; here = λ h. e }

    pub next-end : length ks ≤ i → NextPosition key ks n i
    next-end h = record { after = s.after; within = s.within; before = s.before; here = λ l. let z : ⊥ = omega arith in absurd z }

  -- where the key does not stand, the next position is the one after
  pub next-earlier : {n m r : ℕ} → m ≡ n + 1 → (get_or ks n 0 ≡ key → ⊥) → NextPosition key ks m r → NextPosition key ks n r
  next-earlier {n} {m} {r} e d p =
      record {
        after = omega (arith, p.after);
        within = p.within;
        before = others-more n (n + 1) r (others-one n (ne_eqb key (get_or ks n 0) (λ u. d (sym u)))) (rw e at p).before;
        here = p.here;
      }

  -- how many of those from n up to i are others
  pub record Counted (n to count i : ℕ) : Type 0 where
    pub begun : n ≤ i
    pub within : i ≤ to
    pub few : count ≤ i - n
    pub all : count ≡ i - n → Others key ks n i

pub next-lowest : (key : ℕ) (ks : List ℕ) {r : ℕ} → NextPosition key ks 0 r → r ≡ lowest key ks
next-lowest key ks {r} s = lowest_is key ks r s.within (λ j l e. eqb-false key (get_or ks j 0) (s.before j (omega arith) l) (sym e)) s.here
