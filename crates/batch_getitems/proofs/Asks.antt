-- What the questions of the call tell.
-- Assumes nothing.
use Prim.Native.Nat.{ℕ, ◌+◌, ◌<◌, ◌^◌}
use mathlib.Core.List.{List, [], ◌∷◌, map}
use Rattle.std.specs.Prelude.{None}
use mathlib.Core.Path.{◌≡◌, ap, sym, ◌∙◌}
use lib.IntN.{ℤ}
use lib.ListN.{length}
use Rattle.num.specs.Numbers.{saturated}
use Rattle.column.specs.Asking.{Question, first_no}
use Rattle.column.specs.Lists.{total}
use Rattle.column.specs.Questions.{agree, intervals, room_at, room, both}
use Rattle.column.specs.Runs.{Runs}
use Rattle.column.proofs.FirstNo.{alone, all_yes, goes_on}
use Rattle.column.proofs.Told.{agree-told, room-told}
use Rattle.column.proofs.YesNo.{room-each, flat-room-saturated}
use Rattle.batch.specs.Batch.{batch, entries, batch_valid}
use Rattle.batch.proofs.Asks.{valid-told}
use Rattle.batch_intervals.specs.Calls.{item_runs}
use Rattle.batch_intervals.specs.Workers.{Intervals}
use Rattle.batch_getitems.specs.Calls.{getitems_asked}
use Rattle.batch_getitems.specs.Workers.{Gettable}

module _ (ks os : List ℕ) (es vs : List ℤ) (gs : List ℕ) (ss ts : List ℤ) where
  abbrev pub items : List Runs
  items = item_runs gs ss ts (entries (batch ks os es vs))

  pub items-told : getitems_asked (batch ks os es vs) gs ss ts ≡ None → Intervals (batch ks os es vs) gs ss ts
  unfolding getitems_asked
  items-told h =
      let y = all_yes (batch_valid (batch ks os es vs) ∷ agree 8 (length ss) (length ts) ∷ intervals ss ts ∷ agree 7 (length gs) (length ss) ∷ []) h in
      record {
        batch = valid-told ks os es vs y.0;
        keyed = agree-told 7 (length gs) (length ss) y.1.1.1.0;
        paired = agree-told 8 (length ss) (length ts) y.1.0;
      }

  module _ (x e v : ℕ) where
    -- room for the slices, asked last
    abbrev pub both_asked : Question
    both_asked =
        first_no (getitems_asked (batch ks os es vs) gs ss ts ∷ room ((length ss + 1) ∷ both (total (map length items))) (x ∷ e ∷ v ∷ []) ∷ [])

    -- n of them are counted
    pub room-asked : {n : ℕ} {r : Question} → None ≡ getitems_asked (batch ks os es vs) gs ss ts → n ≡ saturated (total (map length items))
        → r ≡ room ((length ss + 1) ∷ both n) (x ∷ e ∷ v ∷ []) → e < 2 ^ 63 → v < 2 ^ 63 → r ≡ both_asked
    room-asked h en hr le lv =
        goes_on _ h
        (hr
        ∙ ap (λ (k : ℕ). room ((length ss + 1) ∷ both k) (x ∷ e ∷ v ∷ [])) en
        ∙ flat-room-saturated (length ss + 1) (total (map length items)) x e v le lv
        ∙ sym (alone _))

  pub gettable : (x : List ℕ) (e v : List ℤ) → None ≡ both_asked (length x) (length e) (length v) → Gettable (batch ks os es vs) gs ss ts x e v
  gettable x e v h =
      let n = total (map length items) in
      let y = all_yes (getitems_asked (batch ks os es vs) gs ss ts ∷ room ((length ss + 1) ∷ both n) (length x ∷ length e ∷ length v ∷ []) ∷ []) (sym h) in
      let r = all_yes (room_at 0 (length ss + 1) (length x) ∷ room_at 1 n (length e) ∷ room_at 2 n (length v) ∷ [])
      (sym (room-each ((length ss + 1) ∷ both n) (length x ∷ length e ∷ length v ∷ [])) ∙ y.1.0) in
      record {
        intervals = items-told y.0;
        room_offsets = room-told 0 (length ss + 1) (length x) r.0;
        room_ends = room-told 1 n (length e) r.1.0;
        room_values = room-told 2 n (length v) r.1.1.0;
      }
