-- many.rs: the segments of many columns.
use Rattle.std.specs.Prelude.{ℕ, ◌*◌, List, [], ◌∷◌, ◌++◌, map, ◌≡◌, ℤ, length, Result}
use Rattle.column.specs.Asking.{Question, first_no, ◌otherwise◌}
use Rattle.column.specs.Flat.{Flat, count, columns, paired_flat, offsets_flat, ends_flat}
use Rattle.column.specs.Paper.{Outcome, counts, written, outcome_of}
use Rattle.column.specs.Questions.{at_most, room}
use Rattle.plan.specs.Calls.{Segment, segments, segment_ends, ends_in}
use Rattle.column.specs.Lent.{Lent, given, after}
use Rattle.column.specs.declared.error.Refusal.{Refusal}
use Rattle.many.specs.declared.Planned.{Planned}

-- "Has a many_way call at most 128 sequences?"
abbrev pub most_columns : ℕ
most_columns = 128

-- "N (all runs) entries; `plan_many` also N × k indexes, segment after segment, for k columns"
unfoldable pub plan_many_asked : Flat → List ℕ → Question
plan_many_asked f buffers =
    let n = length f.ends in
    first_no (paired_flat f ∷ offsets_flat f ∷ ends_flat f ∷ at_most most_columns (count f) ∷ room (n ∷ n * count f ∷ []) buffers ∷ [])

unfoldable pub plan_many : Flat → List ℕ → Outcome (List Segment)
plan_many f buffers = plan_many_asked f buffers otherwise segments (map ends_in (columns f))

-- the indexes as they are written
abbrev pub all_indexes : List Segment → List ℕ
all_indexes [] = []
all_indexes (s ∷ ss) = s.indexes ++ all_indexes ss

-- how many segments, and how many indexes
abbrev pub planned : List Segment → Planned
planned ss = record { segments = length ss; indexes = length (all_indexes ss) }

-- the promise: ends and indexes, each buffer before and after
pub record WrittenPlanMany (o : Outcome (List Segment)) (r : Result Planned Refusal) (e e' : List ℤ) (x x' : List ℕ) : Type 0 where
  pub answer : outcome_of r ≡ counts planned o
  pub ends : e' ≡ written segment_ends o e
  pub indexes : x' ≡ written all_indexes o x

-- of the buffers that a call is lent: question 12 is about their lengths
abbrev pub WritesPlanMany : (List ℕ → Outcome (List Segment)) → Lent ℤ → Lent ℕ → Result Planned Refusal → Type 0
WritesPlanMany call e x r =
    WrittenPlanMany (call (length (given e) ∷ length (given x) ∷ [])) r (given e) (after e) (given x) (after x)
