-- The sequences of keys that are given once: together they have no more runs than the batch.
-- Assumes nothing.
use Prim.Native.Nat.{ℕ, ◌+◌, ◌≤◌}
use mathlib.Core.Bool.{false}
use mathlib.Core.List.{List, [], ◌∷◌, map}
use mathlib.Core.Path.{◌≡◌, refl, ap, sym, ◌∙◌}
use native.Mathlib.Omega.{arith}
use lib.Dec.{eqb}
use lib.ListN.{length}
use borrow.Author.Tests.{eqb-true, eq-eqb}
use Rattle.num.proofs.Tests.{by-test, both_false}
use Rattle.column.specs.Lists.{any, total}
use Rattle.batch_index.proofs.Lowest.{no_test}
use Rattle.batch_keys.specs.Calls.{once_from, once}
use Rattle.batch_keys.proofs.Once.{NoDoubles, once_no_doubles}
use Rattle.batch.specs.Batch.{Entry, columns_of, find}

-- ---- the runs of the keys' sequences

abbrev pub runs_for : List Entry → List ℕ → ℕ
runs_for es ks = total (map (λ k. length (find k es)) ks)

runs_none : (ks : List ℕ) → runs_for [] ks ≡ 0
unfolding find
runs_none [] = refl
runs_none (k ∷ ks) = omega (arith, runs_none ks)

module _ (e : Entry) (es : List Entry) where
  -- an entry whose key is not given counts for none
  entry_absent : (ks : List ℕ) → any (eqb e.key) ks ≡ false → runs_for (e ∷ es) ks ≡ runs_for es ks
  unfolding find
  entry_absent [] t = refl
  entry_absent (k ∷ ks) t =
      let n = both_false (eqb e.key k) (any (eqb e.key) ks) t in
      let m : eqb k e.key ≡ false = by-test (eqb k e.key) (λ u. no_test (eq-eqb e.key k (sym (eqb-true k e.key u))) n.0) (λ u. u) in
      rw (m, entry_absent ks n.1)

  -- and no entry for more than one
  entry-once : (ks : List ℕ) → NoDoubles ks → runs_for (e ∷ es) ks ≤ length e.runs + runs_for es ks
  unfolding find
  entry-once [] s = omega arith
  entry-once (k ∷ ks) s =
      by-test (eqb k e.key)
      (λ t. rw (t, entry_absent ks (ap (λ (i : ℕ). any (eqb i) ks) (sym (eqb-true k e.key t)) ∙ s.0)) (omega arith))
      (λ t. rw t (omega (arith, entry-once ks s.1)))

single-runs : (es : List Entry) (ks : List ℕ) → NoDoubles ks → runs_for es ks ≤ total (map length (columns_of es))
single-runs [] ks s = omega (arith, runs_none ks)
single-runs (e ∷ es) ks s = omega (arith, entry-once e es ks s, single-runs es ks s)

pub once_runs : (es : List Entry) (ks : List ℕ) → runs_for es (once ks) ≤ total (map length (columns_of es))
unfolding once
once_runs es ks = single-runs es (once_from [] ks) (once_no_doubles [] ks)
