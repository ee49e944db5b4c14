-- Equal keys that stand together, and whether a key stands before a position.
-- Assumes nothing.
use Prim.Native.Nat.{ℕ, zero, suc, ◌+◌, ◌-◌, ◌≤◌, ◌<◌}
use mathlib.Core.Bool.{true}
use mathlib.Core.List.{List}
use mathlib.Core.Path.{◌≡◌, ap, sym, ◌∙◌}
use native.Mathlib.Omega.{arith}
use lib.Dec.{eqb, ltb}
use lib.ListN.{length, get_or, take}
use lib.Seq.{length-take-le}
use borrow.Author.Tests.{eqb-true, eqb-false}
use Rattle.num.proofs.Tests.{by-test}
use Rattle.column.specs.Lists.{any}
use Rattle.batch_index.specs.Calls.{lowest}
use Rattle.batch_index.specs.Workers.{doubled}
use Rattle.batch_index.proofs.Lowest.{lowest-any}
use Rattle.batch_index.proofs.Doubles.{among_none, among_at}
use Rattle.batch_collapse.specs.Workers.{Together}

-- ---- keys that never fall: those before n

pub record Level (ks : List ℕ) (n : ℕ) : Type 0 where
  pub past : 0 < n
  pub level : (i : ℕ) → i < n → 0 < i → get_or ks (i - 1) 0 ≤ get_or ks i 0

module _ (ks : List ℕ) where
  -- a key is not above one after it
  rises : (n : ℕ) → Level ks n → (i d : ℕ) → i + d < n → get_or ks i 0 ≤ get_or ks (i + d) 0
  rises n s i zero h = let e : i + 0 ≡ i = omega arith in rw e (omega arith)
  rises n s i (suc d) h =
      let e : i + suc d - 1 ≡ i + d = omega arith in
      let l : get_or ks (i + d) 0 ≤ get_or ks (i + suc d) 0 = rw e at (s.level (i + suc d) h (omega arith)) in
      omega (arith, rises n s i d (omega arith))

  pub level_end : (n : ℕ) → Level ks n → length ks ≤ n → Together ks
  level_end n s l i p h =
      by-test (eqb (get_or ks i 0) (get_or ks (i - 1) 0))
      (λ t. among_at (get_or ks i 0) ks i (i - 1) (omega arith) (omega arith) (eqb-true (get_or ks i 0) (get_or ks (i - 1) 0) t) ∙ sym t)
      (λ t. among_none (get_or ks i 0) ks i (omega arith)
      (λ j k e. let d : j + (i - 1 - j) ≡ i - 1 = omega arith in
      let r : get_or ks j 0 ≤ get_or ks (i - 1) 0 = rw d at (rises n s j (i - 1 - j) (omega arith)) in
      eqb-false (get_or ks i 0) (get_or ks (i - 1) 0) t (omega (arith, s.level i (omega arith) p)))
      ∙ sym t)

  -- ---- does the key at i stand before it too

  pub before_scanned : (i key : ℕ) {r : ℕ} → i < length ks → key ≡ get_or ks i 0 → r ≡ lowest key (take i ks) → ltb r i ≡ doubled ks i
  before_scanned i key h ek er =
      let l : length (take i ks) ≡ i = length-take-le i ks (omega arith) in
      rw er (ap (ltb (lowest key (take i ks))) (sym l) ∙ lowest-any key (take i ks) ∙ ap (λ (k : ℕ). any (eqb k) (take i ks)) ek)

  -- where they stand together, a key that another follows does not come again
  pub together_gone : Together ks → (last i : ℕ) → last < i → (get_or ks i 0 ≡ get_or ks last 0 → ⊥) → (d : ℕ) → i + d < length ks
      → get_or ks (i + d) 0 ≡ get_or ks last 0 → ⊥
  together_gone t last i h n zero k e = n (let z : i + 0 ≡ i = omega arith in rw z at e)
  together_gone t last i h n (suc d) k e =
      let z : i + suc d - 1 ≡ i + d = omega arith in
      let s : doubled ks (i + suc d) ≡ true = among_at (get_or ks (i + suc d) 0) ks (i + suc d) last (omega arith) (omega arith) e in
      let q : get_or ks (i + suc d) 0 ≡ get_or ks (i + d) 0 =
      rw z at (eqb-true (get_or ks (i + suc d) 0) (get_or ks (i + suc d - 1) 0) (sym (t (i + suc d) (omega arith) k) ∙ s)) in
      together_gone t last i h n d (omega arith) (sym q ∙ e)
