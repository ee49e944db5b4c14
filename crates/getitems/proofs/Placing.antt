-- The slices of intervals laid flat one after another.
-- Assumes nothing.
use Prim.Native.Nat.{ℕ, ◌+◌, ◌-◌, ◌≤◌, ◌<◌}
use Rattle.std.specs.Prelude.{None}
use mathlib.Core.List.{List, []}
use mathlib.Core.Path.{◌≡◌, ap, ap₂, sym, ◌∙◌}
use native.Mathlib.Omega.{arith}
use borrow.Rule.Slice.PartMut.{put_mid}
use lib.IntN.{ℤ, pos}
use lib.ListN.{length, get_or, take, drop, set, length-set}
use mir.Syntax.{w64}
use mir.Val.{SFits, to_z, of_z}
use mir.Facts.{to_z-of_z}
use Rattle.column.specs.Questions.{ends_valid}
use Rattle.column.specs.Runs.{Runs, sequence, runs_of, Filled}
use Rattle.column.specs.Workers.{FilledFlat}
use Rattle.column.proofs.Laying.{Laying, laying_start, laying-room, laying-next, laying_end}
use Rattle.column.proofs.Rest.{rest-length}
use Rattle.slice.specs.Calls.{slice_runs}
use Rattle.getitems.specs.Calls.{interval_runs}
use Rattle.getitems.specs.Workers.{found, Gettable, SliceAt}
use Rattle.getitems.proofs.Items.{length-items, item_at}

-- the first i are laid, and there is room for what is left
pub record Placing (cs : List Runs) (x₀ x : List ℕ) (e₀ e v₀ v : List ℤ) (used i : ℕ) : Type 0 where
  pub laying : Laying cs (set x₀ 0 0) x e₀ e v₀ v used i
  pub fits_ends : used ≤ length e
  pub fits_values : used ≤ length v

module _ {es vs starts stops : List ℤ} {x₀ : List ℕ} {e₀ v₀ : List ℤ} (q : Gettable (sequence es vs) starts stops x₀ e₀ v₀) where
  abbrev items : List Runs
  items = interval_runs starts stops (runs_of es vs)

  items_many : length items ≡ length starts
  items_many = length-items starts stops (runs_of es vs) q.intervals

  pub placing_start : Placing items x₀ (set x₀ 0 0) e₀ e₀ v₀ v₀ 0 0
  placing_start = record {
    laying = laying_start x₀ (omega (arith, q.room_offsets)) items e₀ v₀;
    fits_ends = omega arith;
    fits_values = omega arith;
  }

  module _ {x : List ℕ} {e v : List ℤ} {used i : ℕ} (s : Placing items x₀ x e₀ e v₀ v used i) where
    pub placing_end : length starts ≤ i → FilledFlat items x₀ x e₀ e v₀ v used
    placing_end h = laying_end x₀ (omega (arith, q.room_offsets)) s.laying (rw items_many h)

    module _ (h : i < length starts) (fs : SFits w64 (get_or starts i (pos 0))) (fe : SFits w64 (get_or stops i (pos 0))) where
      abbrev item : Runs
      item = get_or items i []

      -- by the interval as the locals hold it
      abbrev start : ℤ
      start = to_z w64 (of_z w64 (get_or starts i (pos 0)))

      abbrev stop : ℤ
      stop = to_z w64 (of_z w64 (get_or stops i (pos 0)))

      item_is : slice_runs start stop (runs_of es vs) ≡ item
      item_is =
          ap₂ (λ (a b : ℤ). slice_runs a b (runs_of es vs)) (to_z-of_z fs) (to_z-of_z fe) ∙ sym (item_at starts stops (runs_of es vs) i q.intervals h)

      -- there is room for it
      room : (used + length item ≤ length e) × (used + length item ≤ length v)
      room =
          let r = laying-room s.laying (rw items_many h) in
          (rw s.laying.long_ends (r (length e₀) q.room_ends), rw s.laying.long_values (r (length v₀) q.room_values))

      pub placing_item : {first : ℕ} → (ends_valid es ≡ None → first ≡ found es 0 (get_or starts i (pos 0)))
          → SliceAt es vs first start stop (take (length e - used) (drop used e)) (take (length v - used) (drop used v))
      placing_item f =
          let r = room in
          record {
            valid = q.valid;
            paired = q.paired;
            first_found = f q.valid ∙ ap (found es 0) (sym (to_z-of_z fs));
            room_ends = rw (item_is, rest-length) (omega arith);
            room_values = rw (item_is, rest-length) (omega arith);
          }

      module _ {e' v' : List ℤ} {n : ℕ}
          (f : Filled (slice_runs start stop (runs_of es vs)) (take (length e - used) (drop used e)) e' (take (length v - used) (drop used v)) v' n) where
        filled : Filled item (take (length e - used) (drop used e)) e' (take (length v - used) (drop used v)) v' n
        filled = rw item_is at f

        pub placing_fits : used + n ≤ length e
        placing_fits = omega (arith, room.0, filled.count)

        pub placing_next : Placing items x₀ (set x (i + 1) (used + n)) e₀ (put_mid used (length e - used) e e') v₀ (put_mid used (length v - used) v v')
            (used + n) (i + 1)
        placing_next =
            let l = laying-next s.laying (rw items_many h) filled q.room_ends q.room_values
            (rw (items_many, length-set x₀ 0 0) (omega (arith, q.room_offsets))) in
            record {
              laying = l;
              fits_ends = omega (arith, placing_fits, s.laying.long_ends, l.long_ends);
              fits_values = omega (arith, room.1, filled.count, s.laying.long_values, l.long_values);
            }
