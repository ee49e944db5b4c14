-- batch.rs: slice_reduce, intervals of which each has a key.
use Rattle.std.specs.Prelude.{ℕ, List, [], ◌∷◌, map, ℤ, length}
use Rattle.column.specs.Asking.{Question, first_no, ◌otherwise◌}
use Rattle.column.specs.Paper.{Outcome}
use Rattle.column.specs.Questions.{listed, agree, intervals, room, both}
use Rattle.reduce.specs.declared.Reduction.{Reduction}
use Rattle.reduce.specs.Calls.{reduction}
use Rattle.batch.specs.Batch.{Batch, entries, lengths_asked, content_asked}
use Rattle.batch_intervals.specs.Calls.{item_runs}

-- "keys, starts" and "starts, ends" in their own places
unfoldable pub slice_reduce_asked : Batch → List ℕ → List ℤ → List ℤ → ℕ → List ℕ → Question
slice_reduce_asked b keys starts ends code buffers =
    first_no
    (listed 0 2 code
    ∷ first_no (lengths_asked b)
    ∷ agree 7 (length keys) (length starts)
    ∷ agree 8 (length starts) (length ends)
    ∷ first_no (content_asked b)
    ∷ intervals starts ends
    ∷ room (both (length starts)) buffers
    ∷ [])

-- the reduction of the slice of each interval
unfoldable pub slice_reduce : Batch → List ℕ → List ℤ → List ℤ → ℕ → ℤ → List ℕ → Outcome (List Reduction)
slice_reduce b keys starts ends code ddof buffers =
    slice_reduce_asked b keys starts ends code buffers otherwise map (reduction code ddof) (item_runs keys starts ends (entries b))
