-- Worked examples of getitems, computed from its definition. A is document 01's: ends 3, 5, 9, values 7, 2, 7.
-- Assumes nothing.
use Rattle.std.specs.Prelude.{None}
use mathlib.Core.List.{List, [], ◌∷◌, map}
use mathlib.Core.Path.{refl}
use lib.IntN.{pos, negsuc}
use Rattle.column.specs.Flat.{offsets_from, flat_offsets, flat_ends, flat_values}
use Rattle.column.specs.Paper.{Outcome, answers, counts}
use Rattle.column.specs.Questions.{agree, paired, ends_from, ends_valid, interval_at, intervals, room_at, room_from, room}
use Rattle.column.specs.Asking.{each_from}
use Rattle.column.specs.Runs.{Sequence, sequence, Runs, runs_of, ends_of, values_of, length_of}
use Rattle.column.proofs.Rows.{Lines, Row, row, Hold, refused}
use Rattle.slice.specs.Calls.{cut, slice_runs}
use Rattle.getitems.specs.Calls.{interval_runs, getitems_asked, getitems}

abbrev a : Sequence
a = sequence (pos 3 ∷ pos 5 ∷ pos 9 ∷ []) (pos 7 ∷ pos 2 ∷ pos 7 ∷ [])

abbrev as_flat : Outcome (List Runs) → Outcome Lines
as_flat o = counts (λ cs. map pos (flat_offsets cs) ∷ flat_ends cs ∷ flat_values cs ∷ []) o

abbrev rows : List Row
rows =
    row (as_flat (getitems a (pos 2 ∷ pos 9 ∷ pos 4 ∷ []) (pos 6 ∷ pos 12 ∷ pos 5 ∷ []) (4 ∷ 4 ∷ 4 ∷ [])))
    (answers ((pos 0 ∷ pos 3 ∷ pos 3 ∷ pos 4 ∷ []) ∷ (pos 1 ∷ pos 3 ∷ pos 4 ∷ pos 1 ∷ []) ∷ (pos 7 ∷ pos 2 ∷ pos 7 ∷ pos 2 ∷ []) ∷ []))
    ∷ row (as_flat (getitems a (pos 2 ∷ negsuc 0 ∷ []) (pos 6 ∷ pos 3 ∷ []) (0 ∷ 0 ∷ 0 ∷ []))) (refused 9 (pos 1 ∷ negsuc 0 ∷ pos 3 ∷ []) None)
    ∷ []

pub examples : Hold rows
unfolding agree paired ends_from ends_valid each_from interval_at intervals room_at room_from room runs_of ends_of values_of length_of offsets_from flat_ends flat_values cut
    slice_runs interval_runs getitems_asked getitems
examples = (refl, (refl, tt))
