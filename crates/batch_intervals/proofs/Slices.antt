-- The slices of intervals, each of a key's sequence: what the code finds of one.
-- Assumes nothing.
use Prim.Native.Nat.{ℕ, zero, suc, ◌<◌}
use mathlib.Core.List.{List, [], ◌∷◌}
use Rattle.std.specs.Prelude.{None}
use mathlib.Core.Path.{◌≡◌, refl, ap, ap₂, sym, ◌∙◌}
use native.Mathlib.Omega.{arith}
use lib.IntN.{ℤ, pos}
use lib.ListN.{length, get_or}
use Rattle.column.specs.Lists.{parts}
use Rattle.column.specs.Questions.{ends_valid}
use Rattle.column.specs.Runs.{Runs, runs_of}
use Rattle.batch_index.specs.Calls.{lowest}
use Rattle.slice.specs.Calls.{slice_runs}
use Rattle.batch.specs.Batch.{batch, Entry, entries, find}
use Rattle.batch_intervals.specs.Calls.{item_runs}
use Rattle.batch_intervals.specs.Workers.{Intervals}
use Rattle.batch.proofs.Entries.{part-valid, parts-paired}
use Rattle.batch.proofs.Getting.{found}

many : (gs : List ℕ) (ss ts : List ℤ) (b : List Entry) → length gs ≡ length ss → length ss ≡ length ts → length (item_runs gs ss ts b) ≡ length ss
unfolding item_runs
many [] [] ts b l m = refl
many [] (s ∷ ss) ts b l m = let z : ⊥ = omega arith in absurd z
many (g ∷ gs) [] ts b l m = let z : ⊥ = omega arith in absurd z
many (g ∷ gs) (s ∷ ss) [] b l m = let z : ⊥ = omega arith in absurd z
many (g ∷ gs) (s ∷ ss) (t ∷ ts) b l m = ap suc (many gs ss ts b (omega arith) (omega arith))

slice_at : (gs : List ℕ) (ss ts : List ℤ) (b : List Entry) (i : ℕ) → length gs ≡ length ss → length ss ≡ length ts → i < length ss
    → get_or (item_runs gs ss ts b) i [] ≡ slice_runs (get_or ss i (pos 0)) (get_or ts i (pos 0)) (find (get_or gs i 0) b)
unfolding item_runs
slice_at gs [] ts b i l m h = let z : ⊥ = omega arith in absurd z
slice_at [] (s ∷ ss) ts b i l m h = let z : ⊥ = omega arith in absurd z
slice_at (g ∷ gs) (s ∷ ss) [] b i l m h = let z : ⊥ = omega arith in absurd z
slice_at (g ∷ gs) (s ∷ ss) (t ∷ ts) b zero l m h = refl
slice_at (g ∷ gs) (s ∷ ss) (t ∷ ts) b (suc i) l m h = slice_at gs ss ts b i (omega arith) (omega arith) (omega arith)

module _ {ks os : List ℕ} {es vs : List ℤ} {gs : List ℕ} {ss ts : List ℤ} (q : Intervals (batch ks os es vs) gs ss ts) where
  abbrev items : List Runs
  items = item_runs gs ss ts (entries (batch ks os es vs))

  pub items-many : length items ≡ length ss
  items-many = many gs ss ts (entries (batch ks os es vs)) q.keyed q.paired

  -- ---- of the interval at i: its start and end, its key and where that stands, and the ends there

  module _ {i : ℕ} (h : i < length ss) {x y : ℤ} (ex : x ≡ get_or ss i (pos 0)) (ey : y ≡ get_or ts i (pos 0))
      {key at : ℕ} (ek : key ≡ get_or gs i 0) (ea : at ≡ lowest key ks) {pe : List ℤ} (ee : pe ≡ get_or (parts os es) at []) where
    ends-valid : ends_valid pe ≡ None
    ends-valid = rw ee (part-valid ks os es vs q.batch at)

    module _ {pv : List ℤ} (ev : pv ≡ get_or (parts os vs) at []) where
      ends-paired : length pe ≡ length pv
      ends-paired = rw (ee, ev) (parts-paired ks os es vs q.batch at)

      pub item-asked : (ends_valid pe ≡ None) × (length pe ≡ length pv)
      item-asked = (ends-valid, ends-paired)

      pub item_is : slice_runs x y (runs_of pe pv) ≡ get_or items i []
      item_is =
          let f : runs_of pe pv ≡ find (get_or gs i 0) (entries (batch ks os es vs)) =
          ap₂ runs_of ee ev ∙ sym (found ks os es vs key ea q.batch) ∙ ap (λ (k : ℕ). find k (entries (batch ks os es vs))) ek in
          ap₂ (λ (a b : ℤ). slice_runs a b (runs_of pe pv)) ex ey
          ∙ ap (slice_runs (get_or ss i (pos 0)) (get_or ts i (pos 0))) f
          ∙ sym (slice_at gs ss ts (entries (batch ks os es vs)) i q.keyed q.paired h)
