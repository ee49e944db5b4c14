-- A sequence in the first entries of lent buffers.
-- Assumes nothing.
use Prim.Native.Nat.{ℕ, zero, suc, ◌-◌, ◌≤◌, ◌<◌}
use Rattle.std.specs.Prelude.{None}
use mathlib.Core.List.{List, [], ◌∷◌, ◌++◌}
use mathlib.Core.Path.{◌≡◌, refl, ap, sym, ◌∙◌}
use native.Mathlib.Omega.{arith}
use lib.IntN.{ℤ, pos}
use lib.ListN.{length, get_or, take, drop, take-append-drop}
use lib.Seq.{length-take-le}
use Rattle.column.specs.declared.inner.Writer.{Writer}
use Rattle.column.specs.Questions.{ends_valid}
use Rattle.column.specs.Runs.{Runs, runs_of, ends_of, values_of, over, Filled}
use Rattle.column.proofs.Ends.{rising, ends-runs, values-runs, length_runs}
use Rattle.column.specs.Workers.{last_of, Merging}

over-front : {A : Type 0} (n : ℕ) (l : List A) → n ≤ length l → over (take n l) l ≡ l
unfolding over
over-front n l h = ap (λ (k : ℕ). take n l ++ drop k l) (length-take-le n l h) ∙ take-append-drop n l

last_runs : (first : ℤ) (n : ℕ) (es vs : List ℤ) → n < length es → n < length vs → last_of first (runs_of (take (suc n) es) (take (suc n) vs)) ≡ get_or vs n (pos 0)
unfolding runs_of last_of
last_runs first n [] vs h k = let z : ⊥ = omega arith in absurd z
last_runs first n (e ∷ es) [] h k = let z : ⊥ = omega arith in absurd z
last_runs first zero (e ∷ es) (v ∷ vs) h k = refl
last_runs first (suc n) (e ∷ es) (v ∷ vs) h k = last_runs v n es vs (omega arith) (omega arith)

module _ (n : ℕ) (e v : List ℤ) (in-ends : n ≤ length e) (in_values : n ≤ length v) where
  -- the runs of the first n entries
  abbrev pub used_runs : Runs
  used_runs = runs_of (take n e) (take n v)

  pub used-paired : length (take n e) ≡ length (take n v)
  used-paired = length-take-le n e in-ends ∙ sym (length-take-le n v in_values)

  pub used-count : length used_runs ≡ n
  used-count = length_runs (take n e) (take n v) used-paired ∙ length-take-le n e in-ends

  module _ (valid : ends_valid (take n e) ≡ None) where
    pub used-ends : ends_of used_runs ≡ take n e
    used-ends = ends-runs 0 (take n e) (take n v) (rising (take n e) valid) used-paired

    pub used-values : values_of used_runs ≡ take n v
    used-values = values-runs (take n e) (take n v) used-paired

    over-ends : e ≡ over (ends_of used_runs) e
    over-ends = sym (ap (λ (l : List ℤ). over l e) used-ends ∙ over-front n e in-ends)

    over-values : v ≡ over (values_of used_runs) v
    over-values = sym (ap (λ (l : List ℤ). over l v) used-values ∙ over-front n v in_values)

    -- as they stand they are filled with those runs
    pub used-filled : Filled used_runs e e v v n
    used-filled = record { count = sym used-count; ends = over-ends; values = over-values }

    -- and a merging writer can go on after them
    pub used-merging : {w : Writer} (first : ℤ) → w.at ≡ n - 1 → w.last ≡ last_of first used_runs → Merging used_runs first e v e v w
    used-merging first a l = record {
      ends = over-ends;
      values = over-values;
      long_ends = refl;
      long_values = refl;
      at_last = a ∙ ap (λ (k : ℕ). k - 1) (sym used-count);
      last_value = l;
    }

  -- the last value of those entries
  pub used-last : (first : ℤ) → 0 < n → last_of first used_runs ≡ get_or v (n - 1) (pos 0)
  used-last first h =
      let m : n ≡ suc (n - 1) = omega arith in
      ap (λ (k : ℕ). last_of first (runs_of (take k e) (take k v))) m ∙ last_runs first (n - 1) e v (omega arith) (omega arith)
