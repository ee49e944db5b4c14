-- The slices of intervals, each of a key's sequence: the runs that one touches, and the loops that count or write them.
-- Assumes nothing.
use Prim.Native.Nat.{ℕ, ◌+◌, ◌-◌, ◌≤◌, ◌<◌, ◌^◌}
use mathlib.Core.List.{List, [], map}
use Rattle.std.specs.Prelude.{None}
use mathlib.Core.Path.{◌≡◌, refl, ap, sym, ◌∙◌}
use native.Mathlib.Numerals.{add-one}
use native.Mathlib.Omega.{arith}
use lib.IntN.{ℤ, pos}
use borrow.Rule.Slice.PartMut.{put_mid}
use lib.ListN.{length, get_or, take, drop, set, length-set, drop_of_length-le}
use lib.Seq.{drop-cons}
use Rattle.num.specs.Numbers.{saturated}
use Rattle.column.specs.Lists.{total, parts}
use Rattle.column.specs.Questions.{ends_valid}
use Rattle.column.specs.Runs.{Runs, runs_of, Filled}
use Rattle.column.proofs.Rest.{rest-length}
use Rattle.batch_index.specs.Calls.{lowest}
use Rattle.slice.specs.declared.inner.search.TouchedRuns.{TouchedRuns}
use Rattle.slice.specs.Workers.{touched_by, cut_runs, Touches}
use Rattle.column.specs.Workers.{FilledFlat}
use Rattle.slice.proofs.Asks.{slice-filled}
use Rattle.column.proofs.Laying.{Laying, laying_start, laying-room, laying-next, laying_end}
use Rattle.slice.proofs.Touching.{touches, touched_count}
use Rattle.batch.specs.Batch.{batch, entries}
use Rattle.batch_intervals.specs.Calls.{item_runs}
use Rattle.batch_intervals.specs.Workers.{Intervals}
use Rattle.batch_intervals.proofs.Slices.{items-many, item-asked, item_is}
use Rattle.batch_getitems.specs.Workers.{Gettable}

module _ {ks os : List ℕ} {es vs : List ℤ} {gs : List ℕ} {ss ts : List ℤ} (q : Intervals (batch ks os es vs) gs ss ts) where
  abbrev items : List Runs
  items = item_runs gs ss ts (entries (batch ks os es vs))

  -- ---- of the interval at i: its start and end, its key and where that stands, and the ends there

  module _ {i : ℕ} (h : i < length ss) {x y : ℤ} (ex : x ≡ get_or ss i (pos 0)) (ey : y ≡ get_or ts i (pos 0))
      {key at : ℕ} (ek : key ≡ get_or gs i 0) (ea : at ≡ lowest key ks) {pe : List ℤ} (ee : pe ≡ get_or (parts os es) at []) where
    ends-valid : ends_valid pe ≡ None
    ends-valid = (item-asked q h ex ey ek ea ee refl).0

    -- the runs that it touches there
    module _ {t : TouchedRuns} (et : ends_valid pe ≡ None → t ≡ touched_by x y pe) where
      pub item_count : t.count ≡ length (get_or items i [])
      item_count =
          ap (λ (r : TouchedRuns). r.count) (et ends-valid)
          ∙ touched_count x y pe (get_or (parts os vs) at []) ends-valid (item-asked q h ex ey ek ea ee refl).1
          ∙ ap length (item_is q h ex ey ek ea ee refl)

      module _ {pv : List ℤ} (ev : pv ≡ get_or (parts os vs) at []) where
        pub item-touches : (e v : List ℤ) (used : ℕ) → used + length (get_or items i []) ≤ length e → used + length (get_or items i []) ≤ length v
            → Touches t pe pv (take (length e - used) (drop used e)) (take (length v - used) (drop used v))
        item-touches e v used he hv =
            let n : (touched_by x y pe).count ≡ length (get_or items i []) = ap (λ (r : TouchedRuns). r.count) (sym (et ends-valid)) ∙ item_count in
            rw (et ends-valid)
            (touches x y pe pv _ _ ends-valid (item-asked q h ex ey ek ea ee ev).1 (rw rest-length (omega arith)) (rw rest-length (omega arith)))

        pub item-filled : {e e' v v' : List ℤ} {n : ℕ} → Filled (cut_runs t (runs_of pe pv)) e e' v v' n → Filled (get_or items i []) e e' v v' n
        item-filled f = rw (item_is q h ex ey ek ea ee ev) at (slice-filled x y pe pv et ends-valid (item-asked q h ex ey ek ea ee ev).1 f)

-- ---- their runs counted, up to the greatest number that is shown: those of the first i are counted

pub record Counting (cs : List Runs) (n i : ℕ) : Type 0 where
  pub shown : n < 2 ^ 64
  pub left : saturated (n + total (map length (drop i cs))) ≡ saturated (total (map length cs))

pub counting_start : (cs : List Runs) → Counting cs 0 0
counting_start cs = record { shown = omega arith; left = omega arith }

module _ {cs : List Runs} {n i : ℕ} (c : Counting cs n i) where
  pub counting_next : i < length cs → {k m : ℕ} → k ≡ length (get_or cs i []) → m ≡ saturated (n + k) → Counting cs m (i + 1)
  counting_next h {k} ek em =
      let d : total (map length (drop i cs)) ≡ k + total (map length (drop (i + 1) cs)) = rw (add-one i, drop-cons cs i [] h, ek) in
      record { shown = omega arith; left = omega (arith, c.left) }

  pub counting_end : length cs ≤ i → n ≡ saturated (total (map length cs))
  counting_end h =
      let e : saturated (n + 0) ≡ saturated (total (map length cs)) = rw (drop_of_length-le cs {i = i} h) at c.left in
      omega (arith, c.shown)

-- ---- the slices laid flat: the first i of them are written

pub record Placing (cs : List Runs) (x₀ x : List ℕ) (e₀ e v₀ v : List ℤ) (used i : ℕ) : Type 0 where
  pub laying : Laying cs x₀ x e₀ e v₀ v used i
  pub fits_ends : used ≤ length e
  pub fits_values : used ≤ length v

module _ {ks os : List ℕ} {es vs : List ℤ} {gs : List ℕ} {ss ts : List ℤ} {x : List ℕ} {e₀ v₀ : List ℤ} (q : Gettable (batch ks os es vs) gs ss ts x e₀ v₀)
  where
    abbrev slices : List Runs
    slices = item_runs gs ss ts (entries (batch ks os es vs))

    pub placing_start : Placing slices (set x 0 0) (set x 0 0) e₀ e₀ v₀ v₀ 0 0
    placing_start = record {
      laying = laying_start x (omega (arith, q.room_offsets)) slices e₀ v₀;
      fits_ends = omega arith;
      fits_values = omega arith;
    }

    module _ {y : List ℕ} {e v : List ℤ} {used i : ℕ} (s : Placing slices (set x 0 0) y e₀ e v₀ v used i) where
      pub placing_end : length ss ≤ i → FilledFlat slices x y e₀ e v₀ v used
      placing_end h = laying_end x (omega (arith, q.room_offsets)) s.laying (rw (items-many q.intervals) h)

      -- of the interval at i: its start and end, its key and where that stands, and the runs that it touches there
      module _ (h : i < length ss) {a b : ℤ} (ea : a ≡ get_or ss i (pos 0)) (eb : b ≡ get_or ts i (pos 0)) {at : ℕ} (el : at ≡ lowest (get_or gs i 0) ks)
          {pe pv : List ℤ} (ee : pe ≡ get_or (parts os es) at []) (ev : pv ≡ get_or (parts os vs) at [])
          {t : TouchedRuns} (et : ends_valid pe ≡ None → t ≡ touched_by a b pe) where
        in-slices : i < length slices
        in-slices = rw (items-many q.intervals) h

        -- there is room for the next
        room : (used + length (get_or slices i []) ≤ length e) × (used + length (get_or slices i []) ≤ length v)
        room =
            let r = laying-room s.laying in-slices in
            (rw s.laying.long_ends (r (length e₀) q.room_ends), rw s.laying.long_values (r (length v₀) q.room_values))

        pub placing_touches : Touches t pe pv (take (length e - used) (drop used e)) (take (length v - used) (drop used v))
        placing_touches = item-touches q.intervals h ea eb refl el ee et ev e v used room.0 room.1

        module _ {e₂ v₂ : List ℤ} {n : ℕ}
            (f : Filled (cut_runs t (runs_of pe pv)) (take (length e - used) (drop used e)) e₂ (take (length v - used) (drop used v)) v₂ n) where
          filled : Filled (get_or slices i []) (take (length e - used) (drop used e)) e₂ (take (length v - used) (drop used v)) v₂ n
          filled = item-filled q.intervals h ea eb refl el ee et ev f

          pub placing_fits : used + n ≤ length e
          placing_fits = omega (arith, room.0, filled.count)

          pub placing_next : Placing slices (set x 0 0) (set y (i + 1) (used + n)) e₀ (put_mid used (length e - used) e e₂)
              v₀ (put_mid used (length v - used) v v₂) (used + n) (i + 1)
          placing_next =
              let l = laying-next s.laying in-slices filled q.room_ends q.room_values
              (rw (items-many q.intervals, length-set) (omega (arith, q.room_offsets))) in
              record {
                laying = l;
                fits_ends = omega (arith, placing_fits, s.laying.long_ends, l.long_ends);
                fits_values = omega (arith, room.1, filled.count, s.laying.long_values, l.long_values);
              }
