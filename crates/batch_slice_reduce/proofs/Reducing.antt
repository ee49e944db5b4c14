-- The reductions of the slices of intervals, each of a key's sequence.
-- Assumes nothing.
use Prim.Native.Nat.{ℕ, ◌<◌}
use mathlib.Core.List.{List, [], map}
use mathlib.Core.Path.{◌≡◌, ap, sym, ◌∙◌}
use native.Mathlib.Omega.{arith}
use lib.IntN.{ℤ, pos}
use lib.ListN.{length, get_or, length-map, get_or-map}
use Rattle.column.specs.Lists.{parts}
use Rattle.column.specs.Runs.{Runs, runs_of}
use Rattle.batch_index.specs.Calls.{lowest}
use Rattle.slice.specs.Calls.{slice_runs}
use Rattle.reduce.specs.declared.Reduction.{Reduction}
use Rattle.reduce.specs.Calls.{reduction}
use Rattle.reduce.specs.Workers.{FilledReductions}
use Rattle.reduce.proofs.Intervals.{Filling, filling_end}
use Rattle.batch.specs.Batch.{batch, entries}
use Rattle.batch_intervals.specs.Calls.{item_runs}
use Rattle.batch_intervals.specs.Workers.{Intervals}
use Rattle.batch_intervals.proofs.Slices.{items-many, item_is}

module _ {ks os : List ℕ} {es vs : List ℤ} {gs : List ℕ} {ss ts : List ℤ} (q : Intervals (batch ks os es vs) gs ss ts) where
  abbrev items : List Runs
  items = item_runs gs ss ts (entries (batch ks os es vs))

  -- ---- of the interval at i: its start and end, its key and where that stands, and the ends there

  module _ {i : ℕ} (h : i < length ss) {x y : ℤ} (ex : x ≡ get_or ss i (pos 0)) (ey : y ≡ get_or ts i (pos 0))
      {key at : ℕ} (ek : key ≡ get_or gs i 0) (ea : at ≡ lowest key ks) {pe : List ℤ} (ee : pe ≡ get_or (parts os es) at []) where
    pub item_reduced : {pv : List ℤ} → pv ≡ get_or (parts os vs) at [] → (code : ℕ) (ddof : ℤ) {r : Reduction}
        → r ≡ reduction code ddof (slice_runs x y (runs_of pe pv))
        → r ≡ get_or (map (reduction code ddof) items) i (reduction code ddof [])
    item_reduced ev code ddof er = er ∙ ap (reduction code ddof) (item_is q h ex ey ek ea ee ev) ∙ sym (get_or-map (reduction code ddof) items i [])

  pub reductions-many : (code : ℕ) (ddof : ℤ) → length (map (reduction code ddof) items) ≡ length ss
  reductions-many code ddof = rw length-map (items-many q)

  pub reduced_end : (code : ℕ) (ddof : ℤ) {k₀ k b₀ b : List ℕ} {i : ℕ} → Filling (map (reduction code ddof) items) k₀ k b₀ b i → i ≡ length ss
      → FilledReductions (map (reduction code ddof) items) k₀ k b₀ b (length ss)
  reduced_end code ddof s e = rw e at (filling_end s (omega (arith, reductions-many code ddof)))
