-- rle.rs: sequences made run by run, in lent buffers.
use Rattle.std.specs.Prelude.{ℕ, ◌+◌, cond, [], ◌∷◌, ◌++◌, ℤ, pos, length, take, eqb}
use Rattle.column.specs.Asking.{Question, first_no, ◌otherwise◌}
use Rattle.column.specs.Paper.{Outcome}
use Rattle.column.specs.Questions.{used_within, ends_valid, not_negative, fits, long_enough, room, both}
use Rattle.column.specs.Runs.{Sequence, sequence, Runs, to_nat, runs, length_of, push_merged}
use Rattle.from_runs.specs.Calls.{runs_from}

-- the sequence in lent buffers: as many first entries as the used count
abbrev pub used : ℕ → Sequence → Sequence
used n buffers = sequence (take n buffers.ends) (take n buffers.values)

abbrev pub present_length : ℕ → Sequence → ℕ
present_length n buffers = length_of (runs (used n buffers))

-- the used runs, and one more after them unless it is 0
unfoldable pub pushed : Sequence → ℕ → ℤ → ℤ → Runs
pushed buffers n run value = runs (used n buffers) ++ runs_from (present_length n buffers) (run ∷ []) (value ∷ [])

-- "used count + 1 for push and extend, also when nothing is pushed"
abbrev pub room_for_one : ℕ → Sequence → Question
room_for_one n buffers = room (both (n + 1)) (length buffers.ends ∷ length buffers.values ∷ [])

unfoldable pub push_run_asked : Sequence → ℕ → ℤ → Question
push_run_asked buffers n run =
    first_no
    (used_within n (length buffers.ends) (length buffers.values)
    ∷ ends_valid (used n buffers).ends
    ∷ not_negative n run
    ∷ fits (present_length n buffers + to_nat run)
    ∷ room_for_one n buffers
    ∷ [])

unfoldable pub push_run : Sequence → ℕ → ℤ → ℤ → Outcome Runs
push_run buffers n run value = push_run_asked buffers n run otherwise pushed buffers n run value

-- the used runs at the present length, else with a run of the value after them, merged with the last
unfoldable pub extended : Sequence → ℕ → ℤ → ℤ → Runs
extended buffers n requested value =
    let present = runs (used n buffers) in
    cond (eqb (to_nat requested) (length_of present)) present (push_merged present (to_nat requested) value)

unfoldable pub extend_to_asked : Sequence → ℕ → ℤ → Question
extend_to_asked buffers n requested =
    first_no
    (used_within n (length buffers.ends) (length buffers.values)
    ∷ ends_valid (used n buffers).ends
    ∷ long_enough requested (pos (present_length n buffers))
    ∷ room_for_one n buffers
    ∷ [])

unfoldable pub extend_to : Sequence → ℕ → ℤ → ℤ → Outcome Runs
extend_to buffers n requested value = extend_to_asked buffers n requested otherwise extended buffers n requested value
