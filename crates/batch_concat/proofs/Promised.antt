-- The questions of concat, as the code joins them, what they tell, and what the call promises.
-- Assumes nothing.
use Prim.Native.Nat.{ℕ, ◌+◌}
use Rattle.std.specs.Prelude.{Some, None, Result, Ok, IsErrAnd}
use mathlib.Core.List.{List, [], ◌∷◌, ◌++◌, map}
use mathlib.Core.Path.{◌≡◌, sym, ◌∙◌}
use lib.IntN.{ℤ}
use lib.ListN.{length}
use Rattle.column.specs.declared.answer.RleBatch.{RleBatch}
use Rattle.column.specs.declared.error.Refusal.{Refusal}
use Rattle.column.specs.Asking.{Question, first_no}
use Rattle.column.specs.Paper.{paper}
use Rattle.column.specs.Questions.{room}
use Rattle.column.proofs.FirstNo.{all_yes, alone, goes_on}
use Rattle.batch.specs.Batch.{Batch, Entry, batch, entries, batch_needs, WrittenBatch, both_valid}
use Rattle.batch.specs.Workers.{FilledCounts}
use Rattle.batch.proofs.Asks.{both_told, first-refused, batch-room}
use Rattle.batch.proofs.Laying.{batch-written, batch-refused}
use Rattle.batch_keys.specs.Calls.{once}
use Rattle.batch_concat.specs.Calls.{concat_key, fit_keys, concat}
use Rattle.batch_concat.specs.Workers.{ConcatRoom}

module _ (ka oa : List ℕ) (ea va : List ℤ) (kb ob : List ℕ) (eb vb : List ℤ) (k x : List ℕ) (e v : List ℤ) where
  abbrev a : Batch
  a = batch ka oa ea va

  abbrev b : Batch
  b = batch kb ob eb vb

  abbrev ks : List ℕ
  ks = once (ka ++ kb)

  abbrev buffers : List ℕ
  buffers = length k ∷ length x ∷ length e ∷ length v ∷ []

  abbrev rooms : Question
  rooms = room (batch_needs (length ka + length kb) (length ea + length eb)) buffers

  abbrev asks : Question
  asks = first_no (both_valid a b ∷ fit_keys (entries a) (entries b) ks ∷ rooms ∷ [])

  abbrev result : List Entry
  result = map (concat_key (entries a) (entries b)) ks

  pub invalid_refused : (r : Result RleBatch Refusal) (f : Refusal) → IsErrAnd r (λ (z : Refusal). z ≡ f) → Some (paper f) ≡ both_valid a b
      → WrittenBatch (concat a b buffers) r k k x x e e v v
  unfolding concat
  invalid_refused r f i h = batch-refused result r f i (first-refused _ h)

  module _ (y : both_valid a b ≡ None) where
    pub concat-misfit : (r : Result RleBatch Refusal) (f : Refusal) → IsErrAnd r (λ (z : Refusal). z ≡ f) → Some (paper f) ≡ fit_keys (entries a) (entries b) ks
        → WrittenBatch (concat a b buffers) r k k x x e e v v
    unfolding concat
    concat-misfit r f i h = let n : Some (paper f) ≡ asks = rw y (first-refused _ h) in batch-refused result r f i n

    -- 12, after a "yes" to 7
    module _ {q : Question} (hf : None ≡ fit_keys (entries a) (entries b) ks) (hq : q ≡ rooms) where
      asked : q ≡ asks
      asked = rw y (goes_on _ hf (hq ∙ sym (alone _)))

      pub concat-room : None ≡ q → ConcatRoom a b k x e v
      concat-room n =
          let t = both_told ka oa ea va kb ob eb vb y in
          let z = all_yes (both_valid a b ∷ fit_keys (entries a) (entries b) ks ∷ rooms ∷ []) (sym (n ∙ asked)) in
          let m = batch-room (length ka + length kb) (length ea + length eb) (length k) (length x) (length e) (length v) z.1.1.0 in
          record {
            first = t.0;
            second = t.1;
            fitting = z.1.0;
            room_keys = m.for_keys;
            room_offsets = m.for_offsets;
            room_ends = m.for_ends;
            room_values = m.for_values;
          }

      pub concat-written : {k' x' : List ℕ} {e' v' : List ℤ} {r : RleBatch} → None ≡ q → FilledCounts result k k' x x' e e' v v' r
          → WrittenBatch (concat a b buffers) (Ok r) k k' x x' e e' v v'
      unfolding concat
      concat-written n w = batch-written result (sym (n ∙ asked)) w.many w.filled

      pub concat-refused : (r : Result RleBatch Refusal) (f : Refusal) → IsErrAnd r (λ (z : Refusal). z ≡ f) → Some (paper f) ≡ q
          → WrittenBatch (concat a b buffers) r k k x x e e v v
      unfolding concat
      concat-refused r f i n = batch-refused result r f i (n ∙ asked)
