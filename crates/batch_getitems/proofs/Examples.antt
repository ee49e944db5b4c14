-- Worked examples of getitems of a batch, computed from its definition: an absent key, and key 5, which shows 7, 7, 4.
-- Assumes nothing.
use Rattle.std.specs.Prelude.{None}
use mathlib.Core.List.{List, [], ◌∷◌, map}
use mathlib.Core.Path.{refl}
use lib.IntN.{pos}
use Rattle.column.specs.Asking.{each_from}
use Rattle.column.specs.Flat.{sequences_of, columns, offsets_from, flat_offsets, flat_ends, flat_values}
use Rattle.column.specs.Lists.{parts_from}
use Rattle.column.specs.Paper.{Outcome, answers, counts}
use Rattle.column.specs.Questions.{agree, paired, offsets_valid, ends_from, ends_valid, sequences_valid, interval_at, intervals, room_at, room_from, room}
use Rattle.column.specs.Runs.{Runs, runs_of, ends_of, values_of, length_of}
use Rattle.column.proofs.Rows.{Lines, Row, row, Hold, refused}
use Rattle.slice.specs.Calls.{cut, slice_runs}
use Rattle.batch.specs.Batch.{entries_from, entries, keyed, batch_valid, find}
use Rattle.batch.proofs.Rows.{a}
use Rattle.batch_intervals.specs.Calls.{item_runs}
use Rattle.batch_getitems.specs.Calls.{getitems_asked, getitems}

-- offsets, ends and values
abbrev as_flat : Outcome (List Runs) → Outcome Lines
as_flat o = counts (λ cs. map pos (flat_offsets cs) ∷ flat_ends cs ∷ flat_values cs ∷ []) o

abbrev rows : List Row
rows =
    row (as_flat (getitems a (9 ∷ 5 ∷ []) (pos 0 ∷ pos 1 ∷ []) (pos 3 ∷ pos 3 ∷ []) (3 ∷ 2 ∷ 2 ∷ [])))
    (answers ((pos 0 ∷ pos 0 ∷ pos 2 ∷ []) ∷ (pos 1 ∷ pos 2 ∷ []) ∷ (pos 7 ∷ pos 4 ∷ []) ∷ []))
    ∷ row (as_flat (getitems a (5 ∷ []) (pos 0 ∷ pos 2 ∷ []) (pos 1 ∷ pos 1 ∷ []) (0 ∷ 0 ∷ 0 ∷ []))) (refused 9 (pos 1 ∷ pos 2 ∷ pos 1 ∷ []) None)
    ∷ []

pub examples : Hold rows
unfolding agree paired offsets_valid ends_from ends_valid sequences_valid interval_at intervals each_from room_at room_from room runs_of ends_of values_of
    length_of parts_from sequences_of columns offsets_from flat_ends flat_values cut slice_runs entries_from entries keyed batch_valid find item_runs
    getitems_asked getitems
examples = (refl, (refl, tt))
