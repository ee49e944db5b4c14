-- Worked examples of `push_run` and `extend_to`, computed from their definitions. A is document 01's: ends 3, 5, 9, values 7, 2, 7.
-- Assumes nothing.
use mathlib.Core.List.{List, [], ◌∷◌}
use mathlib.Core.Path.{refl}
use lib.IntN.{pos}
use Rattle.column.specs.Paper.{answers}
use Rattle.column.specs.Questions.{used_within, ends_from, ends_valid, not_negative, fits, long_enough, room_at, room_from, room}
use Rattle.column.specs.Runs.{Sequence, sequence, runs_of, ends_of, values_of, length_of, dense_from, dense, joined, encode_from, encode, push_merged}
use Rattle.column.proofs.Rows.{Row, row, Hold, as_runs}
use Rattle.from_runs.specs.Calls.{runs_from}
use Rattle.rle.specs.Calls.{pushed, push_run_asked, push_run, extended, extend_to_asked, extend_to}

-- A, and a lent entry after it
abbrev lent : Sequence
lent = sequence (pos 3 ∷ pos 5 ∷ pos 9 ∷ pos 0 ∷ []) (pos 7 ∷ pos 2 ∷ pos 7 ∷ pos 0 ∷ [])

abbrev rows : List Row
rows =
    row (as_runs (push_run lent 3 (pos 2) (pos 7))) (answers ((pos 3 ∷ pos 5 ∷ pos 9 ∷ pos 11 ∷ []) ∷ (pos 7 ∷ pos 2 ∷ pos 7 ∷ pos 7 ∷ []) ∷ []))
    ∷ row (as_runs (extend_to lent 3 (pos 12) (pos 7))) (answers ((pos 3 ∷ pos 5 ∷ pos 12 ∷ []) ∷ (pos 7 ∷ pos 2 ∷ pos 7 ∷ []) ∷ []))
    ∷ []

pub examples : Hold rows
unfolding used_within ends_from ends_valid not_negative fits long_enough room_at room_from room runs_of ends_of values_of length_of dense_from dense joined encode_from
    encode push_merged runs_from pushed push_run_asked push_run extended extend_to_asked extend_to
examples = (refl, (refl, tt))
