-- What is done to the sequence of each key: how many runs that leaves, and the new sequences laid flat one after another.
-- Assumes nothing.
use Prim.Native.Nat.{ℕ, zero, suc, ◌+◌, ◌-◌, ◌*◌, ◌≤◌, ◌<◌}
use mathlib.Core.List.{List, [], ◌∷◌, map}
use Rattle.std.specs.Prelude.{None, Ok}
use mathlib.Core.Path.{◌≡◌, refl, ap, sym, ◌∙◌}
use native.Mathlib.Nat.{mul-suc}
use native.Mathlib.Omega.{arith}
use borrow.Rule.Slice.PartMut.{put_mid}
use lib.IntN.{ℤ}
use lib.ListN.{length, get_or, take, drop, set, length-map, length-set, get_or-map}
use Rattle.column.specs.Asking.{◌otherwise◌}
use Rattle.column.specs.Flat.{flat, columns}
use Rattle.column.specs.Lists.{total, parts}
use Rattle.column.specs.Questions.{ends_valid, room}
use Rattle.column.specs.Runs.{Runs, runs_of, ends_of, values_of, Filled}
use Rattle.column.proofs.All.{All}
use Rattle.column.proofs.Ends.{valid-ends}
use Rattle.column.proofs.FirstNo.{all_yes}
use Rattle.column.proofs.Rest.{rest-length}
use Rattle.column.proofs.Rising.{Valid}
use Rattle.column.proofs.Sequences.{runs-flat, length-ends, length-values}
use Rattle.slice.specs.declared.inner.search.TouchedRuns.{TouchedRuns}
use Rattle.slice.specs.Workers.{touched_by, Touches}
use Rattle.slice.specs.Calls.{slice_runs}
use Rattle.column.proofs.Laying.{length-all}
use Rattle.slice.proofs.Touching.{touched_inside, touches, touched_count}
use Rattle.shift.proofs.Shifting.{shift-few}
use Rattle.transform.specs.Calls.{reverse_runs}
use Rattle.transform.proofs.Reversing.{reverse-count}
use Rattle.batch.specs.Batch.{Batch, batch, Entry, entries, keys_of, columns_of, WrittenBatch, batch_valid, batch_needs}
use Rattle.batch.specs.Workers.{ValidBatch, FilledBatch}
use Rattle.batch.proofs.Asks.{valid-told, Room, batch-room}
use Rattle.batch.proofs.Entries.{columns_are, columns-many, columns-total, column_is, column-count, part-valid, parts-paired, entries-keys, entries-columns}
use Rattle.batch.proofs.Entries.{entries-many}
use Rattle.batch.proofs.Laying.{no_entry, LayingBatch, batch-start, batch-next-room, batch-next, batch-end, batch-written}
use Rattle.batch_map_rles.specs.declared.inner.Mapping.{Mapping}
use Rattle.batch_map_rles.specs.declared.inner.Mapping.TheVariants.{Shift, Reversed, Slice}
use Rattle.batch_map_rles.specs.Calls.{on_each, each_asked, shift_runs, shift, reversed, map_rles_slice}
use Rattle.batch_map_rles.specs.Workers.{mapped, more, map_each, Mappable}

-- ---- how many runs are left

slice-few : (start end : ℤ) (rs : Runs) → Valid rs → length (slice_runs start end rs) ≤ length rs
slice-few start end rs v =
    let valid = valid-ends rs v in
    let n = rw runs-flat at (touched_count start end (ends_of rs) (values_of rs) valid (length-ends rs ∙ sym (length-values rs))) in
    omega (arith, n, touched_inside start end (ends_of rs) valid, length-ends rs)

mapped-few : (m : Mapping) (rs : Runs) → Valid rs → length (mapped m rs) ≤ length rs + more m
unfolding shift_runs
mapped-few (Shift distance fill) rs v = shift-few distance fill rs v
mapped-few Reversed rs v = omega (arith, reverse-count rs)
mapped-few (Slice start end) rs v = omega (arith, slice-few start end rs v)

-- there is room for the runs that a slice touches where there is for all
pub slice_touches : (start end : ℤ) (es vs e v : List ℤ) {t : TouchedRuns} → (ends_valid es ≡ None → t ≡ touched_by start end es)
    → ends_valid es ≡ None → length es ≡ length vs → length es ≤ length e → length es ≤ length v → Touches t es vs e v
slice_touches start end es vs e v et valid l re rv =
    let i = touched_inside start end es valid in
    rw (et valid) (touches start end es vs e v valid l (omega arith) (omega arith))

module _ (m : Mapping) where
  -- those of the sequences before one of them, and as many as may be left of it
  front-room : (cs : List Runs) (i : ℕ) → All Valid cs → i < length cs
      → total (map length (take i (map (mapped m) cs))) + (length (get_or cs i []) + more m) ≤ total (map length cs) + more m * length cs
  front-room [] i v h = let z : ⊥ = omega arith in absurd z
  front-room (c ∷ cs) zero v h = omega (arith, mul-suc (more m) (length cs))
  front-room (c ∷ cs) (suc i) v h = omega (arith, mapped-few m c v.0, front-room cs i v.1 (omega arith), mul-suc (more m) (length cs))

  all_room : (cs : List Runs) → All Valid cs → total (map length (map (mapped m) cs)) ≤ total (map length cs) + more m * length cs
  all_room [] v = omega arith
  all_room (c ∷ cs) v = omega (arith, mapped-few m c v.0, all_room cs v.1, mul-suc (more m) (length cs))

-- ---- the new sequences

abbrev pub results : Mapping → Batch → List Entry
results m b = on_each (mapped m) (entries b)

keys_on : (f : Runs → Runs) (es : List Entry) → keys_of (on_each f es) ≡ keys_of es
keys_on f [] = refl
keys_on f (e ∷ es) = ap {B = List ℕ} (λ ks. e.key ∷ ks) (keys_on f es)

columns_on : (f : Runs → Runs) (es : List Entry) → columns_of (on_each f es) ≡ map f (columns_of es)
columns_on f [] = refl
columns_on f (e ∷ es) = ap {B = List Runs} (λ cs. f e.runs ∷ cs) (columns_on f es)

map_at : (f : Runs → Runs) (cs : List Runs) (i : ℕ) → i < length cs → get_or (map f cs) i [] ≡ f (get_or cs i [])
map_at f [] i h = let z : ⊥ = omega arith in absurd z
map_at f (c ∷ cs) zero h = refl
map_at f (c ∷ cs) (suc i) h = map_at f cs i (omega arith)

module _ (m : Mapping) (ks os : List ℕ) (es vs : List ℤ) (w : ValidBatch (batch ks os es vs)) where
  abbrev made : List Entry
  made = results m (batch ks os es vs)

  results_many : length made ≡ length ks
  results_many = rw length-map (entries-many ks os es vs w)

  made-columns : columns_of made ≡ map (mapped m) (columns (flat os es vs))
  made-columns = columns_on (mapped m) (entries (batch ks os es vs)) ∙ ap (map (mapped m)) (entries-columns ks os es vs w)

  made-key : (k : ℕ) → get_or ks k 0 ≡ (get_or made k no_entry).key
  made-key k =
      ap (λ (l : List ℕ). get_or l k 0) (sym (keys_on (mapped m) (entries (batch ks os es vs)) ∙ entries-keys ks os es vs w))
      ∙ get_or-map (λ (e : Entry). e.key) made k no_entry

  made-runs : (k : ℕ) → k < length ks → mapped m (runs_of (get_or (parts os es) k []) (get_or (parts os vs) k [])) ≡ (get_or made k no_entry).runs
  made-runs k h =
      ap (mapped m) (sym (column_is ks os es vs w k))
      ∙ sym (map_at (mapped m) (columns (flat os es vs)) k (omega (arith, columns-many ks os es vs w)))
      ∙ ap (λ (cs : List Runs). get_or cs k []) (sym made-columns)
      ∙ get_or-map (λ (e : Entry). e.runs) made k no_entry

  made-total : total (map length (columns_of made)) ≤ length es + more m * length ks
  made-total = rw made-columns
      (rw (columns-total ks os es vs w, columns-many ks os es vs w) at (all_room m (columns (flat os es vs)) (columns_are ks os es vs w)))

-- ---- the loop: the new sequences of the first n keys are written

pub record Mapped (m : Mapping) (b : Batch) (k₀ k x₀ x : List ℕ) (e₀ e v₀ v : List ℤ) (used n : ℕ) : Type 0 where
  pub laid : LayingBatch (results m b) k₀ k x₀ x e₀ e v₀ v used n
  pub fits_ends : used ≤ length e
  pub fits_values : used ≤ length v

module _ {m : Mapping} {ks os : List ℕ} {es vs : List ℤ} {k₀ x : List ℕ} {e₀ v₀ : List ℤ} (q : Mappable m (batch ks os es vs) k₀ x e₀ v₀) where
  pub map_start : Mapped m (batch ks os es vs) k₀ k₀ (set x 0 0) (set x 0 0) e₀ e₀ v₀ v₀ 0 0
  map_start = record {
    laid = batch-start (results m (batch ks os es vs)) k₀ x e₀ v₀ (omega (arith, q.room_offsets));
    fits_ends = omega arith;
    fits_values = omega arith;
  }

  all-ends : total (map length (columns_of (results m (batch ks os es vs)))) ≤ length e₀
  all-ends = omega (arith, made-total m ks os es vs q.batch, q.room_ends)

  all-values : total (map length (columns_of (results m (batch ks os es vs)))) ≤ length v₀
  all-values = omega (arith, made-total m ks os es vs q.batch, q.room_values)

  module _ {k y : List ℕ} {e v : List ℤ} {used n : ℕ} (s : Mapped m (batch ks os es vs) k₀ k (set x 0 0) y e₀ e v₀ v used n) where
    module _ (h : n < length ks) where
      in-results : n < length (results m (batch ks os es vs))
      in-results = rw (results_many m ks os es vs q.batch) h

      -- there is room for all that may be left of the next sequence
      next-room : used + (length (get_or (parts os es) n []) + more m) ≤ length es + more m * length ks
      next-room =
          let cs = columns (flat os es vs) in
          let u : used ≡ total (map length (take n (map (mapped m) cs))) =
          s.laid.laying.filled.count
          ∙ length-all (take n (columns_of (results m (batch ks os es vs))))
          ∙ ap (λ (ds : List Runs). total (map length (take n ds))) (made-columns m ks os es vs q.batch) in
          let f = front-room m cs n (columns_are ks os es vs q.batch) (omega (arith, columns-many ks os es vs q.batch)) in
          rw (u, sym (column-count ks os es vs q.batch n)) (rw (columns-total ks os es vs q.batch, columns-many ks os es vs q.batch) at f)

      module _ {pe pv : List ℤ} (ee : pe ≡ get_or (parts os es) n []) (ev : pv ≡ get_or (parts os vs) n []) where
        pub map_asked : (ends_valid pe ≡ None) × (length pe ≡ length pv)
            × (length pe + more m ≤ length (take (length e - used) (drop used e))) × (length pe + more m ≤ length (take (length v - used) (drop used v)))
        map_asked =
            let re : length pe + more m ≤ length (take (length e - used) (drop used e)) =
            rw (rest-length, ee) (omega (arith, next-room, q.room_ends, s.laid.laying.long_ends)) in
            let rv : length pe + more m ≤ length (take (length v - used) (drop used v)) =
            rw (rest-length, ee) (omega (arith, next-room, q.room_values, s.laid.laying.long_values)) in
            (rw ee (part-valid ks os es vs q.batch n), rw (ee, ev) (parts-paired ks os es vs q.batch n), re, rv)

        module _ {e₂ v₂ : List ℤ} {r : ℕ}
            (f : Filled (mapped m (runs_of pe pv)) (take (length e - used) (drop used e)) e₂ (take (length v - used) (drop used v)) v₂ r) where
          wrote : Filled (get_or (results m (batch ks os es vs)) n no_entry).runs (take (length e - used) (drop used e)) e₂
              (take (length v - used) (drop used v)) v₂ r
          wrote = rw (ee, ev, made-runs m ks os es vs q.batch n h) at f

          pub map_used : used + r ≤ length e
          map_used = omega (arith, wrote.count, batch-next-room s.laid in-results (length e₀) all-ends, s.laid.laying.long_ends)

          pub map_next : Mapped m (batch ks os es vs) k₀ (set k n (get_or ks n 0)) (set x 0 0) (set y (n + 1) (used + r))
              e₀ (put_mid used (length e - used) e e₂) v₀ (put_mid used (length v - used) v v₂) (used + r) (n + 1)
          map_next =
              let l = results_many m ks os es vs q.batch in
              let laid = batch-next s.laid in-results (made-key m ks os es vs q.batch n) wrote all-ends all-values
              (rw (l, length-set) (omega (arith, q.room_offsets))) (rw l q.room_keys) in
              record {
                laid = laid;
                fits_ends = omega (arith, map_used, s.laid.laying.long_ends, laid.laying.long_ends);
                fits_values =
                    omega (arith, wrote.count, batch-next-room s.laid in-results (length v₀) all-values, laid.laying.long_values);
              }

    pub map_end : length ks ≤ n → FilledBatch (results m (batch ks os es vs)) k₀ k x y e₀ e v₀ v used
    map_end h = batch-end (omega (arith, q.room_offsets)) s.laid (rw (results_many m ks os es vs q.batch) h)

-- ---- the calls

pub shift-each : (distance fill : ℤ) (b : Batch) (buffers : List ℕ) → map_each (Shift distance fill) b buffers ≡ shift b distance fill buffers
unfolding map_each shift
shift-each distance fill b buffers =
    let n : length b.flat.ends + 1 * length b.keys ≡ length b.flat.ends + length b.keys = omega arith in
    ap (λ (runs : ℕ). each_asked b runs buffers otherwise on_each (shift_runs distance fill) (entries b)) n

pub reversed-each : (b : Batch) (buffers : List ℕ) → map_each Reversed b buffers ≡ reversed b buffers
unfolding map_each reversed
reversed-each b buffers =
    let n : length b.flat.ends + 0 * length b.keys ≡ length b.flat.ends = omega arith in
    ap (λ (runs : ℕ). each_asked b runs buffers otherwise on_each reverse_runs (entries b)) n

pub slice-each : (start end : ℤ) (b : Batch) (buffers : List ℕ) → map_each (Slice start end) b buffers ≡ map_rles_slice b start end buffers
unfolding map_each map_rles_slice
slice-each start end b buffers =
    let n : length b.flat.ends + 0 * length b.keys ≡ length b.flat.ends = omega arith in
    ap (λ (runs : ℕ). each_asked b runs buffers otherwise on_each (slice_runs start end) (entries b)) n

module _ (m : Mapping) (ks os : List ℕ) (es vs : List ℤ) (k x : List ℕ) (e v : List ℤ)
    (yes : each_asked (batch ks os es vs) (length es + more m * length ks) (length k ∷ length x ∷ length e ∷ length v ∷ []) ≡ None) where
  told : ValidBatch (batch ks os es vs) × Room (length ks) (length es + more m * length ks) (length k) (length x) (length e) (length v)
  unfolding each_asked
  told =
      let runs = length es + more m * length ks in
      let y = all_yes (batch_valid (batch ks os es vs) ∷ room (batch_needs (length ks) runs) (length k ∷ length x ∷ length e ∷ length v ∷ []) ∷ []) yes in
      (valid-told ks os es vs y.0, batch-room (length ks) runs (length k) (length x) (length e) (length v) y.1.0)

  pub each-told : Mappable m (batch ks os es vs) k x e v
  each-told = record {
    batch = told.0;
    room_keys = told.1.for_keys;
    room_offsets = told.1.for_offsets;
    room_ends = told.1.for_ends;
    room_values = told.1.for_values;
  }

  pub each-written : {k' x' : List ℕ} {e' v' : List ℤ} {n : ℕ} → FilledBatch (results m (batch ks os es vs)) k k' x x' e e' v v' n
      → WrittenBatch (map_each m (batch ks os es vs) (length k ∷ length x ∷ length e ∷ length v ∷ []))
      (Ok (record { keys = length ks; runs = n })) k k' x x' e e' v v'
  unfolding map_each
  each-written f = batch-written (results m (batch ks os es vs)) yes (sym (results_many m ks os es vs told.0)) f
