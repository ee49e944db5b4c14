-- The keys of two batches one after the other: the loop that looks for the next place that is kept. t tells whether a place is.
-- Assumes nothing.
use Rattle.std.specs.Prelude.{Some, None}
use Prim.Native.Nat.{ℕ, ◌+◌, ◌≤◌, ◌<◌}
use mathlib.Core.Bool.{Bool, true, false}
use mathlib.Core.Path.{◌≡◌, ap, sym, ◌∙◌}
use native.Mathlib.Omega.{arith}
use lib.Dec.{ltb}
use borrow.Author.Tests.{ltb-true, ltb-false}
use Rattle.num.proofs.Tests.{by-test}
use Rattle.batch.specs.declared.two.Joined.{Joined}
use Rattle.batch.specs.Workers.{NextKept}

module _ (t : ℕ → Bool) (places n : ℕ) where
  -- no place from n on and before i is kept
  pub record Passing (i : ℕ) : Type 0 where
    pub after : n ≤ i
    pub within : i ≤ places
    pub before : (j : ℕ) → n ≤ j → j < i → t j ≡ false

  pub passing-start : n ≤ places → Passing n
  passing-start h = record { after = omega arith; within = h; before = λ j l k. let z : ⊥ = omega arith in absurd z }

  module _ {i : ℕ} (p : Passing i) where
    pub passing-next : i < places → t i ≡ false → Passing (i + 1)
    passing-next h u = record {
      after = omega (arith, p.after);
      within = omega arith;
      before = λ j l k. by-test (ltb j i) (λ v. p.before j l (ltb-true j i v))
          (λ v. let e : j ≡ i = omega (arith, ltb-false j i v) in ap t e ∙ u);
    }

    pub passing-found : (f : ℕ → Joined) {r : Joined} → i < places → r ≡ f i → r.at ≡ i → t i ≡ true → NextKept f t places n (Some r)
    passing-found f {r} h er e u = record {
      after = omega (arith, p.after, e);
      within = omega (arith, e);
      before = λ j l k. p.before j l (omega (arith, e));
      here = (omega (arith, e), er ∙ ap f (sym e), ap t e ∙ u);
    }

    pub passing-end : {f : ℕ → Joined} → places ≤ i → NextKept f t places n None
    passing-end h = record {
      after = omega (arith, p.after, p.within);
      within = omega arith;
      before = λ j l k. p.before j l (omega arith);
      here = tt;
    }
