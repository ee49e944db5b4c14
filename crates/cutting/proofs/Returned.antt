-- What a call returned, as the next one is handed it: the entries that its answer counts, at the front of the lent buffers.
-- Assumes nothing.
use Rattle.std.specs.Prelude.{Result}
use Prim.Native.Nat.{ℕ, suc, ◌+◌}
use mathlib.Core.List.{List, map}
use mathlib.Core.Path.{◌≡◌, ap, sym, ◌∙◌}
use native.Mathlib.Numerals.{add-one}
use lib.IntN.{ℤ}
use lib.ListN.{length, take, length-map}
use lib.Seq.{take-append_seam}
use Rattle.column.specs.Flat.{flat_offsets, flat_ends, flat_values}
use Rattle.column.specs.Lists.{total}
use Rattle.column.specs.Paper.{answers, WrittenRuns, outcome_of}
use Rattle.column.specs.Runs.{sequence, Runs, ends_of, values_of, over}
use Rattle.column.proofs.Sequences.{length-ends, length-values}
use Rattle.batch.specs.Batch.{batch, Entry, keys_of, columns_of, WrittenBatch}
use Rattle.cutting.specs.Cut.{sequence_of, batch_of}
use Rattle.cutting.proofs.Laid.{length-flat-ends, length-flat-values, length-flat-offsets}
use Rattle.column.specs.declared.answer.RleBatch.{RleBatch}
use Rattle.column.specs.declared.error.Refusal.{Refusal}

front : {A : Type 0} (xs before : List A) (n : ℕ) → length xs ≡ n → take n (over xs before) ≡ xs
unfolding over
front xs before n e = rw (← e, take-append_seam)

-- of a call that writes runs
module _ {rs : Runs} {r : Result ℕ Refusal} {e e' v v' : List ℤ} (w : WrittenRuns (answers rs) r e e' v v') where
  pub count_returned : outcome_of r ≡ answers (length rs)
  count_returned = w.answer

  pub runs_returned : sequence (take (length rs) e') (take (length rs) v') ≡ sequence_of rs
  runs_returned =
      rw (w.ends, w.values, front (ends_of rs) e (length rs) (length-ends rs), front (values_of rs) v (length rs) (length-values rs))

-- of a call that writes a batch
module _ {es : List Entry} {r : Result RleBatch Refusal} {k k' x x' : List ℕ} {e e' v v' : List ℤ} (w : WrittenBatch (answers es) r k k' x x' e e' v v') where
  abbrev keys : ℕ
  keys = length es

  abbrev runs : ℕ
  runs = total (map length (columns_of es))

  pub counts_returned : outcome_of r ≡ answers (record { keys = keys; runs = runs })
  counts_returned = w.answer ∙ ap (λ n. answers (record { keys = n; runs = runs })) (length-map es (λ (e : Entry). e.runs))

  pub batch_returned : batch (take keys k') (take (keys + 1) x') (take runs e') (take runs v') ≡ batch_of es
  batch_returned =
      let cs = columns_of es in
      let o : length (flat_offsets cs) ≡ keys + 1 = length-flat-offsets cs ∙ ap suc (length-map es (λ (e : Entry). e.runs)) ∙ sym (add-one keys) in
      rw (
        w.keys,
        w.offsets,
        w.ends,
        w.values,
        front (keys_of es) k keys (length-map es (λ (e : Entry). e.key)),
        front (flat_offsets cs) x (keys + 1) o,
        front (flat_ends cs) e runs (length-flat-ends cs),
        front (flat_values cs) v runs (length-flat-values cs),
      )
