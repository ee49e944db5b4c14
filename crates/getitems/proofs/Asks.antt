-- The questions of getitems: the runs that it needs are counted once the ends and the lengths are asked about.
-- Assumes nothing.
use Prim.Native.Nat.{ℕ, ◌+◌, ◌<◌, ◌^◌}
use Rattle.std.specs.Prelude.{None}
use mathlib.Core.List.{List, [], ◌∷◌, map}
use mathlib.Core.Path.{◌≡◌, ap, sym, ◌∙◌}
use lib.IntN.{ℤ}
use lib.ListN.{length}
use Rattle.num.specs.Numbers.{saturated}
use Rattle.column.specs.Asking.{Question}
use Rattle.column.specs.Lists.{total}
use Rattle.column.specs.Questions.{agree, paired, ends_valid, intervals, room_at, room, both}
use Rattle.column.specs.Runs.{sequence, Runs, runs_of}
use Rattle.column.proofs.FirstNo.{all_yes}
use Rattle.column.proofs.Told.{agree-told, room-told}
use Rattle.column.proofs.YesNo.{room-each, flat-room-saturated}
use Rattle.getitems.specs.Calls.{interval_runs, getitems_asked}
use Rattle.getitems.specs.Workers.{interval_counts, Gettable}
use Rattle.getitems.proofs.Items.{counts_are}

module _ (es vs starts stops : List ℤ) (x e v : ℕ) where
  abbrev items : List Runs
  items = interval_runs starts stops (runs_of es vs)

  abbrev items_room : Question
  items_room = room ((length starts + 1) ∷ both (total (map length items))) (x ∷ e ∷ v ∷ [])

  pub getitems-room : {n : ℕ} → (ends_valid es ≡ None → length starts ≡ length stops → n ≡ saturated (total (interval_counts starts stops es)))
      → e < 2 ^ 63 → v < 2 ^ 63 → None ≡ agree 3 (length es) (length vs) → None ≡ agree 8 (length starts) (length stops) → None ≡ ends_valid es
      → room ((length starts + 1) ∷ both n) (x ∷ e ∷ v ∷ []) ≡ items_room
  getitems-room en le lv p i y =
      let counts = counts_are starts stops es vs (sym y) (agree-told 3 (length es) (length vs) (sym p)) in
      let n = en (sym y) (agree-told 8 (length starts) (length stops) (sym i)) ∙ ap (λ (ns : List ℕ). saturated (total ns)) counts in
      ap (λ (i : ℕ). room ((length starts + 1) ∷ both i) (x ∷ e ∷ v ∷ [])) n
      ∙ flat-room-saturated (length starts + 1) (total (map length items)) x e v le lv

pub getitems-yes : (es vs starts stops : List ℤ) (x : List ℕ) (e v : List ℤ)
    → getitems_asked (sequence es vs) starts stops (length x ∷ length e ∷ length v ∷ []) ≡ None → Gettable (sequence es vs) starts stops x e v
unfolding getitems_asked paired
getitems-yes es vs starts stops x e v h =
    let n = total (map length (interval_runs starts stops (runs_of es vs))) in
    let given = length x ∷ length e ∷ length v ∷ [] in
    let y = all_yes (paired (sequence es vs) ∷ agree 8 (length starts) (length stops) ∷ ends_valid es ∷ intervals starts stops
    ∷ room ((length starts + 1) ∷ both n) given ∷ []) h in
    let r = all_yes (room_at 0 (length starts + 1) (length x) ∷ room_at 1 n (length e) ∷ room_at 2 n (length v) ∷ [])
    (sym (room-each ((length starts + 1) ∷ both n) given) ∙ y.1.1.1.1.0) in
    record {
      valid = y.1.1.0;
      paired = agree-told 3 (length es) (length vs) y.0;
      intervals = agree-told 8 (length starts) (length stops) y.1.0;
      room_offsets = room-told 0 (length starts + 1) (length x) r.0;
      room_ends = room-told 1 n (length e) r.1.0;
      room_values = room-told 2 n (length v) r.1.1.0;
    }
