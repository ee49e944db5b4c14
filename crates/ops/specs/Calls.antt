-- ops.rs: two columns combined by an operation code.
use Rattle.std.specs.Prelude.{ℕ, ◌+◌, List, [], ◌∷◌, ℤ, length, Option}
use Rattle.num.specs.Numbers.{operation}
use Rattle.column.specs.Asking.{Question, first_no, ◌otherwise◌}
use Rattle.column.specs.Combine.{Column, two, all_filled, combined}
use Rattle.column.specs.Paper.{Outcome}
use Rattle.column.specs.Questions.{listed, paired, ends_valid, room, both}
use Rattle.column.specs.Runs.{Sequence, Runs, runs, length_of}
use Rattle.plan.specs.Calls.{segment_runs}

-- the two columns, each with its fill
abbrev pub sides : Sequence → Sequence → Option ℤ → Option ℤ → List Column
sides a b fa fb = two fa fb (runs a) (runs b)

-- what both zips ask: "na + nb entries per buffer, as do both zips"
unfoldable pub zip_asked : Sequence → Sequence → Option ℤ → Option ℤ → ℕ → List ℕ → Question
zip_asked a b fa fb code buffers =
    first_no
    (listed 0 9 code
    ∷ paired a
    ∷ paired b
    ∷ ends_valid a.ends
    ∷ ends_valid b.ends
    ∷ all_filled (length_of (runs a)) (length_of (runs b)) (sides a b fa fb)
    ∷ room (both (length a.ends + length b.ends)) buffers
    ∷ [])

-- "covers positions 0 up to the longer length .. and the result is merged"
unfoldable pub zip_with : Sequence → Sequence → Option ℤ → Option ℤ → ℕ → List ℕ → Outcome Runs
zip_with a b fa fb code buffers = zip_asked a b fa fb code buffers otherwise combined (operation code) (sides a b fa fb)

-- "`zip_with_raw` keeps one run per segment"
unfoldable pub zip_with_raw : Sequence → Sequence → Option ℤ → Option ℤ → ℕ → List ℕ → Outcome Runs
zip_with_raw a b fa fb code buffers = zip_asked a b fa fb code buffers otherwise segment_runs (operation code) (sides a b fa fb)
