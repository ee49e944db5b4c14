-- The questions of zip_with of two batches, as the code joins them, and what a "yes" to all of them tells.
-- Assumes nothing.
use Prim.Native.Nat.{ℕ, ◌+◌, ◌<◌, ◌^◌}
use Rattle.std.specs.Prelude.{Some, None, Option, Ok, ⊤}
use mathlib.Core.List.{List, [], ◌∷◌, map}
use mathlib.Core.Path.{◌≡◌, ap, sym, ◌∙◌}
use lib.IntN.{ℤ}
use lib.ListN.{length}
use Rattle.num.specs.Numbers.{operation}
use Rattle.column.specs.declared.answer.RleBatch.{RleBatch}
use Rattle.column.specs.Asking.{Question, shown_asked, first_no}
use Rattle.column.specs.Combine.{value_of, combined, table, greatest_length, row_at, value_at}
use Rattle.column.specs.Lists.{total}
use Rattle.column.specs.Paper.{PaperRefusal}
use Rattle.column.specs.Questions.{listed, room}
use Rattle.column.proofs.FirstNo.{all_yes, alone, goes_on}
use Rattle.batch.specs.Batch.{Batch, batch_needs, WrittenBatch, both_valid}
use Rattle.batch.specs.Workers.{ValidBatch, FilledCounts}
use Rattle.batch.proofs.Asks.{both_told, first-refused, batch-room, saturated-room}
use Rattle.batch.proofs.Laying.{batch-written}
use Rattle.batch_zip_with.specs.Calls.{pair_runs, filled_pairs, zip_needs, zip_pair, zip_asked, zip_with}
use Rattle.batch_zip_with.specs.declared.inner.PairsAsked.{PairsAsked}
use Rattle.batch_zip_with.specs.Workers.{AsksPairs, ZipRoom}
use Rattle.batch_zip_with.proofs.Pairs.{all_pairs}

module _ (a b : Batch) (how code : ℕ) where
  -- both batches are valid
  pub zip-valid : zip_asked a b how code ≡ None → ValidBatch a × ValidBatch b
  unfolding zip_asked
  zip-valid h =
      both_told a.keys a.flat.offsets a.flat.ends a.flat.values b.keys b.flat.offsets b.flat.ends b.flat.values
      (all_yes (listed 0 3 how ∷ listed 0 9 code ∷ both_valid a b ∷ []) h).1.1.0

  -- ---- with 10 and 12

  module _ (fa fb : Option ℤ) where
    abbrev pub every_asked : List ℕ → Question
    every_asked buffers = first_no (zip_asked a b how code ∷ filled_pairs fa fb (all_pairs how a b) ∷ room (zip_needs a b (all_pairs how a b)) buffers ∷ [])

    module _ (yes : zip_asked a b how code ≡ None) (k x e v : ℕ) where
      -- a "no" to 10 of a pair
      pub pairs-refused : {r : PaperRefusal} → Some r ≡ filled_pairs fa fb (all_pairs how a b) → Some r ≡ every_asked (k ∷ x ∷ e ∷ v ∷ [])
      pairs-refused h = rw yes (first-refused (room (zip_needs a b (all_pairs how a b)) (k ∷ x ∷ e ∷ v ∷ []) ∷ []) h)

      -- 12, after a "yes" to 10 of every pair
      pub all_asked : {q : Question} {r : PairsAsked} {u : ⊤} → e < 2 ^ 63 → v < 2 ^ 63 → AsksPairs fa fb (all_pairs how a b) r → r.asked ≡ Ok u
          → q ≡ room (batch_needs (length a.keys + length b.keys) r.runs) (k ∷ x ∷ e ∷ v ∷ []) → q ≡ every_asked (k ∷ x ∷ e ∷ v ∷ [])
      all_asked he hv h is hq =
          rw yes (goes_on _ (ap shown_asked (sym is) ∙ h.filled) (hq
          ∙ ap (λ (m : ℕ). room (batch_needs (length a.keys + length b.keys) m) (k ∷ x ∷ e ∷ v ∷ [])) h.runs
          ∙ saturated-room (length a.keys + length b.keys) (total (map pair_runs (all_pairs how a b))) k x e v he hv ∙ sym (alone _)))

    pub zip-room : (k x : List ℕ) (e v : List ℤ) → every_asked (length k ∷ length x ∷ length e ∷ length v ∷ []) ≡ None → ZipRoom a b (all_pairs how a b) k x e v
    zip-room k x e v h =
        let y = all_yes (zip_asked a b how code ∷ filled_pairs fa fb (all_pairs how a b) ∷ room (zip_needs a b (all_pairs how a b))
        (length k ∷ length x ∷ length e ∷ length v ∷ []) ∷ []) h in
        let w = zip-valid y.0 in
        let r = batch-room (length a.keys + length b.keys) (total (map pair_runs (all_pairs how a b))) (length k) (length x) (length e) (length v)
        y.1.1.0 in
        record { first = w.0; second = w.1; room_keys = r.for_keys; room_offsets = r.for_offsets; room_ends = r.for_ends; room_values = r.for_values }

    -- a fill that is missing shows nowhere: the result is that of its value
    pub zip-written : {x y : ℤ} → x ≡ value_of fa → y ≡ value_of fb → {k k' o o' : List ℕ} {e e' v v' : List ℤ} {r : RleBatch}
        → every_asked (length k ∷ length o ∷ length e ∷ length v ∷ []) ≡ None
        → FilledCounts (map (zip_pair (operation code) (Some x) (Some y)) (all_pairs how a b)) k k' o o' e e' v v' r
        → WrittenBatch (zip_with a b how fa fb code (length k ∷ length o ∷ length e ∷ length v ∷ [])) (Ok r) k k' o o' e e' v v'
    unfolding zip_with combined table greatest_length row_at value_at
    zip-written ex ey {k} {k'} {o} {o'} {e} {e'} {v} {v'} {r} h f =
        let g : FilledCounts (map (zip_pair (operation code) fa fb) (all_pairs how a b)) k k' o o' e e' v v' r = rw (ex, ey) at f in
        batch-written (map (zip_pair (operation code) fa fb) (all_pairs how a b)) h g.many g.filled
