-- slice.rs and reduce.rs: the slices of intervals, and their reductions.
use Rattle.std.specs.Prelude.{ℕ, ◌+◌, List, [], ◌∷◌, map, ℤ, length}
use Rattle.column.specs.Asking.{Question, first_no, ◌otherwise◌}
use Rattle.column.specs.Lists.{total}
use Rattle.column.specs.Paper.{Outcome}
use Rattle.column.specs.Questions.{agree, paired, ends_valid, intervals, room, both, listed}
use Rattle.column.specs.Runs.{Sequence, Runs, runs}
use Rattle.slice.specs.Calls.{slice_runs}
use Rattle.reduce.specs.declared.Reduction.{Reduction}
use Rattle.reduce.specs.Calls.{reduction}

-- ---- getitems

-- the slice of each interval
unfoldable pub interval_runs : List ℤ → List ℤ → Runs → List Runs
interval_runs [] ends rs = []
interval_runs (s ∷ ss) [] rs = []
interval_runs (s ∷ ss) (e ∷ es) rs = slice_runs s e rs ∷ interval_runs ss es rs

-- (what 8: starts, ends) "exactly its runs and offsets; its keys are the interval numbers and are not written"
unfoldable pub getitems_asked : Sequence → List ℤ → List ℤ → List ℕ → Question
getitems_asked s starts ends buffers =
    first_no
    (paired s
    ∷ agree 8 (length starts) (length ends)
    ∷ ends_valid s.ends
    ∷ intervals starts ends
    ∷ room ((length starts + 1) ∷ both (total (map length (interval_runs starts ends (runs s))))) buffers
    ∷ [])

unfoldable pub getitems : Sequence → List ℤ → List ℤ → List ℕ → Outcome (List Runs)
getitems s starts ends buffers = getitems_asked s starts ends buffers otherwise interval_runs starts ends (runs s)

-- ---- slice_reduce

unfoldable pub slice_reduce_asked : Sequence → List ℤ → List ℤ → ℕ → List ℕ → Question
slice_reduce_asked s starts ends code buffers =
    first_no
    (listed 0 2 code
    ∷ paired s
    ∷ agree 8 (length starts) (length ends)
    ∷ ends_valid s.ends
    ∷ intervals starts ends
    ∷ room (both (length starts)) buffers
    ∷ [])

-- the reduction of the slice of each interval
unfoldable pub slice_reduce : Sequence → List ℤ → List ℤ → ℕ → ℤ → List ℕ → Outcome (List Reduction)
slice_reduce s starts ends code ddof buffers =
    slice_reduce_asked s starts ends code buffers otherwise map (reduction code ddof) (interval_runs starts ends (runs s))
