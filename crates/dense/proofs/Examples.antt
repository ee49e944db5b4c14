-- Worked examples of from_dense and to_dense, computed from their definitions.
-- Assumes nothing.
use mathlib.Core.List.{List, [], ◌∷◌}
use mathlib.Core.Path.{refl}
use lib.IntN.{pos}
use Rattle.column.specs.Paper.{answers}
use Rattle.column.specs.Questions.{agree, paired, ends_from, ends_valid, room_at, room_from, room}
use Rattle.column.specs.Runs.{sequence, runs_of, ends_of, values_of, length_of, dense_from, dense, joined, encode_from, encode, push_merged}
use Rattle.column.proofs.Rows.{Row, row, Hold, as_runs, as_entries}
use Rattle.dense.specs.Calls.{from_dense, to_dense_asked, to_dense}

abbrev rows : List Row
rows =
    row (as_runs (from_dense (pos 7 ∷ pos 7 ∷ pos 2 ∷ pos 7 ∷ []) (4 ∷ 4 ∷ []))) (answers ((pos 2 ∷ pos 3 ∷ pos 4 ∷ []) ∷ (pos 7 ∷ pos 2 ∷ pos 7 ∷ []) ∷ []))
    ∷ row (as_entries (to_dense (sequence (pos 2 ∷ pos 3 ∷ []) (pos 7 ∷ pos 2 ∷ [])) (3 ∷ []))) (answers ((pos 7 ∷ pos 7 ∷ pos 2 ∷ []) ∷ []))
    ∷ []

pub examples : Hold rows
unfolding agree paired ends_from ends_valid room_at room_from room runs_of ends_of values_of length_of dense_from dense joined encode_from encode push_merged from_dense
    to_dense_asked to_dense
examples = (refl, (refl, tt))
