-- Worked examples of from_parts and get, computed from their definitions.
-- Assumes nothing.
use Rattle.std.specs.Prelude.{Option, Some, None}
use mathlib.Core.List.{List, [], ◌∷◌}
use mathlib.Core.Path.{refl}
use lib.IntN.{pos}
use Rattle.column.specs.Asking.{each_from}
use Rattle.column.specs.Flat.{sequences_of, columns}
use Rattle.column.specs.Lists.{parts_from}
use Rattle.column.specs.Paper.{Outcome, answers, counts}
use Rattle.column.specs.Questions.{agree, paired, offsets_valid, ends_from, ends_valid, sequences_valid, distinct_at, distinct_keys, room_at, room_from, room}
use Rattle.column.specs.Runs.{Runs, runs_of, ends_of, values_of}
use Rattle.column.proofs.Rows.{Lines, Row, row, Hold, refused}
use Rattle.batch.specs.Batch.{batch, entries_from, entries, keyed, batch_valid, has, find}
use Rattle.batch.specs.Calls.{from_parts, get}
use Rattle.batch.proofs.Rows.{a}

abbrev as_checked : Outcome (Unit {0}) → Outcome Lines
as_checked o = counts (λ u. []) o

-- the runs of a key, or none
abbrev as_got : Outcome (Option Runs) → Outcome Lines
as_got o = counts lines o
  where
    lines : Option Runs → Lines
    lines None = []
    lines (Some rs) = ends_of rs ∷ values_of rs ∷ []

-- a double key (8 with the position of the second); a key that is there, a short buffer, an absent key, and a key of no runs
abbrev rows : List Row
rows =
    row (as_checked (from_parts a)) (answers [])
    ∷ row (as_checked (from_parts (batch (5 ∷ 2 ∷ 5 ∷ []) (0 ∷ 0 ∷ 0 ∷ 0 ∷ []) [] []))) (refused 8 (pos 2 ∷ []) None)
    ∷ row (as_got (get a 5 (2 ∷ 2 ∷ []))) (answers ((pos 2 ∷ pos 3 ∷ []) ∷ (pos 7 ∷ pos 4 ∷ []) ∷ []))
    ∷ row (as_got (get a 5 (2 ∷ 1 ∷ []))) (refused 12 (pos 1 ∷ pos 2 ∷ pos 1 ∷ []) None)
    ∷ row (as_got (get a 9 (0 ∷ 0 ∷ []))) (answers [])
    ∷ row (as_got (get (batch (5 ∷ []) (0 ∷ 0 ∷ []) [] []) 5 (0 ∷ 0 ∷ []))) (answers ([] ∷ [] ∷ []))
    ∷ []

pub examples : Hold rows
unfolding agree paired offsets_valid ends_from ends_valid sequences_valid distinct_at distinct_keys each_from room_at room_from room runs_of ends_of values_of
    parts_from sequences_of columns entries_from entries keyed batch_valid has find from_parts get
examples = (refl, (refl, (refl, (refl, (refl, (refl, tt))))))
