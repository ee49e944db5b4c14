-- Worked examples of batches as rows: two batches, and what a call writes into each buffer.
-- Assumes nothing.
use mathlib.Core.List.{List, [], ◌∷◌, map}
use lib.IntN.{pos}
use Rattle.column.specs.Flat.{flat_offsets, flat_ends, flat_values}
use Rattle.column.specs.Paper.{Outcome, counts}
use Rattle.column.proofs.Rows.{Lines}
use Rattle.batch.specs.Batch.{Batch, batch, Entry, keys_of, columns_of}

-- key 5 shows 7, 7, 4, and key 2 shows 1
abbrev pub a : Batch
a = batch (5 ∷ 2 ∷ []) (0 ∷ 2 ∷ 3 ∷ []) (pos 2 ∷ pos 3 ∷ pos 1 ∷ []) (pos 7 ∷ pos 4 ∷ pos 1 ∷ [])

-- key 9 shows 8, 8, and key 5 shows 4
abbrev pub b : Batch
b = batch (9 ∷ 5 ∷ []) (0 ∷ 1 ∷ 2 ∷ []) (pos 2 ∷ pos 1 ∷ []) (pos 8 ∷ pos 4 ∷ [])

-- keys, offsets, ends and values
abbrev pub as_batch : Outcome (List Entry) → Outcome Lines
as_batch o = counts (λ es. map pos (keys_of es) ∷ map pos (flat_offsets (columns_of es)) ∷ flat_ends (columns_of es) ∷ flat_values (columns_of es) ∷ []) o
