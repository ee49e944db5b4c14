-- What the positions of a sequence show that `from_runs` has made; `from_dense` is defined by what it shows.
-- Assumes nothing.
use Prim.Native.Nat.{ℕ, ◌+◌, ◌-◌}
use mathlib.Core.List.{List, [], ◌∷◌, ◌++◌}
use mathlib.Core.Path.{◌≡◌, refl}
use native.Mathlib.Omega.{arith}
use lib.Dec.{eqb}
use lib.IntN.{ℤ}
use lib.ListN.{replicate}
use borrow.Author.Tests.{eqb-true}
use Rattle.num.proofs.Tests.{by-test}
use Rattle.column.specs.Runs.{to_nat, dense_from, dense}
use Rattle.from_runs.specs.Calls.{runs_from}

-- each value as often as its run is long
abbrev pub spread : List ℤ → List ℤ → List ℤ
spread [] vs = []
spread (n ∷ ns) [] = []
spread (n ∷ ns) (v ∷ vs) = replicate (to_nat n) v ++ spread ns vs

shown-length : (p k : ℕ) (v : ℤ) → replicate (p + k - p) v ≡ replicate k v
shown-length p k v = let e : p + k - p ≡ k = omega arith in rw e

pub shown-from : (p : ℕ) (ns vs : List ℤ) → dense_from p (runs_from p ns vs) ≡ spread ns vs
unfolding dense_from runs_from
shown-from p [] vs = refl
shown-from p (n ∷ ns) [] = refl
shown-from p (n ∷ ns) (v ∷ vs) =
    by-test (eqb (to_nat n) 0)
    (λ t. rw (t, eqb-true (to_nat n) 0 t) (shown-from p ns vs))
    (λ t. rw (t, shown-length p (to_nat n) v, shown-from (p + to_nat n) ns vs))

pub from-runs-shows : (ns vs : List ℤ) → dense (runs_from 0 ns vs) ≡ spread ns vs
unfolding dense
from-runs-shows ns vs = shown-from 0 ns vs
