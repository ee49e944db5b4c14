-- Keys that are given twice: a key among those before a position.
-- Assumes nothing.
use Prim.Native.Nat.{ℕ, zero, suc, ◌≤◌, ◌<◌}
use mathlib.Core.Bool.{true, false}
use mathlib.Core.List.{List, [], ◌∷◌}
use mathlib.Core.Path.{◌≡◌, refl}
use native.Mathlib.Omega.{arith}
use lib.Dec.{eqb}
use lib.ListN.{length, get_or, take}
use borrow.Author.Tests.{eq-eqb, ne_eqb}
use Rattle.num.proofs.Tests.{by-test}
use Rattle.column.specs.Lists.{any}
use Rattle.batch_index.proofs.Lowest.{no_test}

pub among_not : (k : ℕ) (ks : List ℕ) (i j : ℕ) → any (eqb k) (take i ks) ≡ false → j < i → j < length ks → k ≡ get_or ks j 0 → ⊥
among_not k [] i j t h l e = let z : ⊥ = omega arith in absurd z
among_not k (x ∷ ks) zero j t h l e = let z : ⊥ = omega arith in absurd z
among_not k (x ∷ ks) (suc i) zero t h l e = no_test (rw (eq-eqb k x e)) t
among_not k (x ∷ ks) (suc i) (suc j) t h l e = by-test (eqb k x) (λ y. no_test (rw y) t) (λ y. among_not k ks i j (rw y at t) (omega arith)
    (omega arith) e)

pub among_none : (k : ℕ) (ks : List ℕ) (i : ℕ) → i ≤ length ks → ((j : ℕ) → j < i → k ≡ get_or ks j 0 → ⊥) → any (eqb k) (take i ks) ≡ false
among_none k ks zero h n = refl
among_none k [] (suc i) h n = refl
among_none k (x ∷ ks) (suc i) h n = rw (ne_eqb k x (n 0 (omega arith))) (among_none k ks i (omega arith) (λ j l. n (suc j) (omega arith)))

-- a key that stands at an earlier position is among them
pub among_at : (k : ℕ) (ks : List ℕ) (i j : ℕ) → j < i → j < length ks → k ≡ get_or ks j 0 → any (eqb k) (take i ks) ≡ true
among_at k ks i j h l e = by-test (any (eqb k) (take i ks)) (λ t. t) (λ t. absurd (among_not k ks i j t h l e))
