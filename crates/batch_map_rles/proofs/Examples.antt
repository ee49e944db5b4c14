-- Worked examples of shift, reversed and map_rles_slice of a batch, computed from their definitions: key 5 shows 7, 7, 4, and key 2 shows 1.
-- Assumes nothing.
use mathlib.Core.List.{List, [], ◌∷◌}
use mathlib.Core.Path.{refl}
use lib.IntN.{pos}
use Rattle.column.specs.Asking.{each_from}
use Rattle.column.specs.Flat.{sequences_of, columns, offsets_from, flat_ends, flat_values}
use Rattle.column.specs.Lists.{parts_from}
use Rattle.column.specs.Paper.{answers}
use Rattle.column.specs.Questions.{agree, paired, offsets_valid, ends_from, ends_valid, sequences_valid, room_at, room_from, room}
use Rattle.column.specs.Runs.{runs_of, ends_of, values_of, length_of, dense_from, dense, joined, encode_from, encode}
use Rattle.column.proofs.Rows.{Row, row, Hold}
use Rattle.slice.specs.Calls.{cut, slice_runs}
use Rattle.shift.specs.Calls.{shift_values}
use Rattle.transform.specs.Calls.{reverse_from, reverse_runs}
use Rattle.batch.specs.Batch.{entries_from, entries, keyed, batch_valid}
use Rattle.batch.proofs.Rows.{a, as_batch}
use Rattle.batch_map_rles.specs.Calls.{each_asked, shift_runs, shift, reversed, map_rles_slice}

-- of the slice key 2 shows nothing, and is kept
abbrev rows : List Row
rows =
    row (as_batch (shift a (pos 1) (pos 0) (2 ∷ 3 ∷ 5 ∷ 5 ∷ [])))
    (answers ((pos 5 ∷ pos 2 ∷ []) ∷ (pos 0 ∷ pos 2 ∷ pos 3 ∷ []) ∷ (pos 1 ∷ pos 3 ∷ pos 1 ∷ []) ∷ (pos 0 ∷ pos 7 ∷ pos 0 ∷ []) ∷ []))
    ∷ row (as_batch (reversed a (2 ∷ 3 ∷ 3 ∷ 3 ∷ [])))
    (answers ((pos 5 ∷ pos 2 ∷ []) ∷ (pos 0 ∷ pos 2 ∷ pos 3 ∷ []) ∷ (pos 1 ∷ pos 3 ∷ pos 1 ∷ []) ∷ (pos 4 ∷ pos 7 ∷ pos 1 ∷ []) ∷ []))
    ∷ row (as_batch (map_rles_slice a (pos 1) (pos 3) (2 ∷ 3 ∷ 3 ∷ 3 ∷ [])))
    (answers ((pos 5 ∷ pos 2 ∷ []) ∷ (pos 0 ∷ pos 2 ∷ pos 2 ∷ []) ∷ (pos 1 ∷ pos 2 ∷ []) ∷ (pos 7 ∷ pos 4 ∷ []) ∷ []))
    ∷ []

pub examples : Hold rows
unfolding agree paired offsets_valid ends_from ends_valid sequences_valid each_from room_at room_from room runs_of ends_of values_of length_of dense_from dense
    joined encode_from encode parts_from sequences_of columns offsets_from flat_ends flat_values cut slice_runs shift_values reverse_from reverse_runs
    entries_from entries keyed batch_valid each_asked shift_runs shift reversed map_rles_slice
examples = (refl, (refl, (refl, tt)))
