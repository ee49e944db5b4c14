-- What the questions of the call tell.
-- Assumes nothing.
use Prim.Native.Nat.{ℕ}
use mathlib.Core.List.{List, [], ◌∷◌}
use Rattle.std.specs.Prelude.{None}
use mathlib.Core.Path.{◌≡◌}
use lib.IntN.{ℤ}
use lib.ListN.{length}
use Rattle.column.specs.Asking.{Question, first_no}
use Rattle.column.specs.Questions.{listed, agree, intervals, room, both}
use Rattle.column.proofs.FirstNo.{all_yes}
use Rattle.column.proofs.Told.{agree-told, both_told}
use Rattle.batch.specs.Batch.{Batch, batch, lengths_asked, content_asked}
use Rattle.batch.proofs.Asks.{batch-told}
use Rattle.batch_slice_reduce.specs.Calls.{slice_reduce_asked}
use Rattle.batch_slice_reduce.specs.Workers.{Reducible}

module _ (ks os : List ℕ) (es vs : List ℤ) (gs : List ℕ) (ss ts : List ℤ) (code : ℕ) where
  abbrev b : Batch
  b = batch ks os es vs

  abbrev last : ℕ → ℕ → Question
  last k w = room (both (length ss)) (k ∷ w ∷ [])

  pub reduce-told : (k w : List ℕ) → slice_reduce_asked b gs ss ts code (length k ∷ length w ∷ []) ≡ None → Reducible b gs ss ts k w
  unfolding slice_reduce_asked
  reduce-told k w h =
      let y = all_yes (listed 0 2 code ∷ first_no (lengths_asked b) ∷ agree 7 (length gs) (length ss) ∷ agree 8 (length ss) (length ts) ∷ first_no (content_asked b)
      ∷ intervals ss ts
      ∷ last (length k) (length w) ∷ []) h in
      let r = both_told (length ss) (length k) (length w) y.1.1.1.1.1.1.0 in
      record {
        intervals = record {
          batch = batch-told ks os es vs y.1.0 y.1.1.1.1.0;
          keyed = agree-told 7 (length gs) (length ss) y.1.1.0;
          paired = agree-told 8 (length ss) (length ts) y.1.1.1.0;
        };
        room_kinds = r.0;
        room_bits = r.1;
      }
