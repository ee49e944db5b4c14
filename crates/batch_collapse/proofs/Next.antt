-- The next group and the next member: the positions that are passed over.
-- Assumes nothing.
use Prim.Native.Nat.{ℕ, ◌+◌, ◌-◌, ◌≤◌, ◌<◌}
use mathlib.Core.Bool.{true}
use mathlib.Core.List.{List}
use mathlib.Core.Path.{◌≡◌, sym}
use native.Mathlib.Omega.{arith}
use lib.ListN.{length, get_or}
use borrow.Author.Tests.{ne_eqb}
use Rattle.batch_index.specs.Workers.{doubled, NextPosition}
use Rattle.batch_collapse.specs.Workers.{Together}
use Rattle.batch_collapse.proofs.Together.{together_gone}

-- from n up to i, P holds of each
pub record Past (P : ℕ → Type 0) (n limit i : ℕ) : Type 0 where
  pub after : n ≤ i
  pub within : i ≤ limit
  pub each : (j : ℕ) → n ≤ j → j < i → P j

-- ---- the next group

abbrev pub PastGroup : List ℕ → ℕ → ℕ → Type 0
PastGroup ks n i = Past (λ j. doubled ks j ≡ true) n (length ks) i

-- ---- the next member, where equal keys stand together: it stands after the last, or there is none

module _ (ks : List ℕ) (last : ℕ) where
  pub member_gone : Together ks → last + 1 < length ks → (get_or ks (last + 1) 0 ≡ get_or ks last 0 → ⊥) → NextPosition (get_or ks last 0) ks
      (last + 1) (length ks)
  member_gone t h n = record {
    after = omega arith;
    within = omega arith;
    before = λ j k l. let d : last + 1 + (j - (last + 1)) ≡ j = omega arith in
        ne_eqb (get_or ks last 0) (get_or ks j 0) (λ e. together_gone ks t last (last + 1) (omega arith) n (j - (last + 1)) (rw d l) (rw d (sym e)));
    here = λ k. let z : ⊥ = omega arith in absurd z;
  }
