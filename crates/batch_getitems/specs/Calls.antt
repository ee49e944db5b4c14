-- batch.rs: getitems, intervals of which each has a key.
use Rattle.std.specs.Prelude.{ℕ, ◌+◌, List, [], ◌∷◌, map, ℤ, length}
use Rattle.column.specs.Asking.{Question, first_no, ◌otherwise◌}
use Rattle.column.specs.Lists.{total}
use Rattle.column.specs.Paper.{Outcome}
use Rattle.column.specs.Questions.{agree, intervals, room, both}
use Rattle.column.specs.Runs.{Runs}
use Rattle.batch.specs.Batch.{Batch, entries, batch_valid}
use Rattle.batch_intervals.specs.Calls.{item_runs}

-- "puts "starts, ends", then 9, then "keys, starts", all three at the place of 9"
unfoldable pub getitems_asked : Batch → List ℕ → List ℤ → List ℤ → Question
getitems_asked b keys starts ends =
    first_no
    (batch_valid b
    ∷ agree 8 (length starts) (length ends)
    ∷ intervals starts ends
    ∷ agree 7 (length keys) (length starts)
    ∷ [])

-- "exactly its runs and offsets; its keys are the interval numbers and are not written"
unfoldable pub getitems : Batch → List ℕ → List ℤ → List ℤ → List ℕ → Outcome (List Runs)
getitems b keys starts ends buffers =
    let items = item_runs keys starts ends (entries b) in
    first_no (getitems_asked b keys starts ends ∷ room ((length starts + 1) ∷ both (total (map length items))) buffers ∷ [])
    otherwise items
