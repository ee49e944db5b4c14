-- Worked examples of the calls of slice.rs, computed from their definitions. A is document 01's: ends 3, 5, 9, values 7, 2, 7.
-- Assumes nothing.
use Rattle.std.specs.Prelude.{Option, Some, None}
use Rattle.std.proofs.Common.{ℕ, List, [], ◌∷◌, pos, negsuc, refl}
use Rattle.column.specs.Paper.{Outcome, answers, counts}
use Rattle.column.specs.Questions.{agree, paired, ends_from, ends_valid, room_at, room_from, room, sequence_asked}
use Rattle.column.specs.Runs.{Sequence, sequence, runs_of, ends_of, values_of, length_of}
use Rattle.column.proofs.Rows.{Lines, Row, row, Hold, refused, as_runs}
use Rattle.slice.specs.Calls.{first_where, first_end_above, covering, run_index, cut, slice_runs, slice, view_of, slice_view, slice_part, entries_of}
use Rattle.slice.specs.declared.View.{View}

abbrev a : Sequence
a = sequence (pos 3 ∷ pos 5 ∷ pos 9 ∷ []) (pos 7 ∷ pos 2 ∷ pos 7 ∷ [])

-- an index, or none
abbrev as_index : Outcome (Option ℕ) → Outcome Lines
as_index o = counts lines o
  where
    lines : Option ℕ → Lines
    lines None = []
    lines (Some i) = (pos i ∷ []) ∷ []

abbrev as_view : Outcome View → Outcome Lines
as_view o = counts (λ v. (pos v.first ∷ v.start ∷ v.length ∷ []) ∷ []) o

abbrev rows : List Row
rows =
    row (as_index (run_index a.ends (pos 2))) (answers ((pos 0 ∷ []) ∷ []))
    ∷ row (as_index (run_index a.ends (pos 3))) (answers ((pos 1 ∷ []) ∷ []))
    ∷ row (as_index (run_index a.ends (pos 8))) (answers ((pos 2 ∷ []) ∷ []))
    ∷ row (as_index (run_index a.ends (pos 9))) (answers [])
    ∷ row (as_index (run_index a.ends (negsuc 0))) (answers [])
    ∷ row (as_runs (slice a (pos 2) (pos 6) (3 ∷ 3 ∷ []))) (answers ((pos 1 ∷ pos 3 ∷ pos 4 ∷ []) ∷ (pos 7 ∷ pos 2 ∷ pos 7 ∷ []) ∷ []))
    ∷ row (as_runs (slice a (pos 2) (pos 6) (3 ∷ 2 ∷ []))) (refused 12 (pos 1 ∷ pos 3 ∷ pos 2 ∷ []) None)
    ∷ row (as_runs (slice a (pos 9) (pos 12) (0 ∷ 0 ∷ []))) (answers ([] ∷ [] ∷ []))
    ∷ row (as_runs (slice a (negsuc 4) (pos 3) (1 ∷ 1 ∷ []))) (answers ((pos 3 ∷ []) ∷ (pos 7 ∷ []) ∷ []))
    ∷ row (as_view (slice_view a (pos 4) (pos 12))) (answers ((pos 1 ∷ pos 4 ∷ pos 5 ∷ []) ∷ []))
    ∷ row (as_view (slice_view a (pos 6) (pos 6))) (answers ((pos 0 ∷ pos 0 ∷ pos 0 ∷ []) ∷ []))
    ∷ row (answers (entries_of (slice_part a (pos 4) (pos 12)) a.values ∷ [])) (answers ((pos 2 ∷ pos 7 ∷ []) ∷ []))
    ∷ []

pub examples : Hold rows
unfolding agree paired ends_from ends_valid room_at room_from room sequence_asked runs_of ends_of values_of length_of first_end_above first_where covering run_index cut
    slice_runs slice view_of slice_view slice_part
examples = (refl, (refl, (refl, (refl, (refl, (refl, (refl, (refl, (refl, (refl, (refl, (refl, tt))))))))))))
