-- plan.rs: the segments of columns, of two or of many.
use Rattle.std.specs.Prelude.{ℕ, zero, suc, ◌+◌, min, cond, List, [], ◌∷◌, map, ◌≡◌, ℤ, pos, length, get_or, eqb, Option, Some, None, Result}
use Rattle.column.specs.Asking.{Question, first_no, ◌otherwise◌}
use Rattle.column.specs.Combine.{Column, value_of, folded}
use Rattle.column.specs.Lists.{total}
use Rattle.column.specs.Paper.{Outcome, counts, written, outcome_of}
use Rattle.column.specs.Questions.{ends_valid, room}
use Rattle.column.specs.Runs.{Run, Runs, to_nat, values_of}
use Rattle.column.specs.Lent.{Lent, given, after}
use Rattle.column.specs.declared.error.Refusal.{Refusal}

-- where a column stands: the index of its current run, and the ends from it on
pub record Place : Type 0 where
  pub index : ℕ
  pub rest : List ℕ

-- a segment: its end, and the index of each column's run, "its run count" where the column is spent
pub record Segment : Type 0 where
  pub end : ℕ
  pub indexes : List ℕ

-- "A segment ends at the smaller of the two current ends", of many at the least
abbrev pub least : ℕ → Option ℕ → ℕ
least e None = e
least e (Some d) = min e d

-- the least of the current ends, of which a spent column has none
abbrev pub least_end : List (List ℕ) → Option ℕ
least_end [] = None
least_end ([] ∷ rests) = least_end rests
least_end ((e ∷ es) ∷ rests) = Some (least e (least_end rests))

-- "each side whose end that is steps on; a spent side keeps its run count as index"
abbrev pub stepped_on : ℕ → ℕ → List ℕ → Place
stepped_on e i [] = record { index = i; rest = [] }
stepped_on e i (d ∷ ds) = cond (eqb d e) (record { index = suc i; rest = ds }) (record { index = i; rest = d ∷ ds })

abbrev pub rests : List Place → List (List ℕ)
rests ps = map (λ (p : Place). p.rest) ps

abbrev pub indexes : List Place → List ℕ
indexes ps = map (λ (p : Place). p.index) ps

abbrev pub stepped : ℕ → List Place → List Place
stepped e ps = map (λ (p : Place). stepped_on e p.index p.rest) ps

-- the segments from the places on, n at most
unfoldable pub segments_from : ℕ → List Place → List Segment
segments_from zero ps = []
segments_from (suc n) ps =
    elim (least_end (rests ps)) [
      | None ↦ []
      | Some e ↦ record { end = e; indexes = indexes ps } ∷ segments_from n (stepped e ps)
    ]

-- each column at its first run
abbrev pub first_places : List (List ℕ) → List Place
first_places ends = map (λ (es : List ℕ). record { index = 0; rest = es }) ends

-- the segments of columns, of which the ends are given: no more than they have runs
unfoldable pub segments : List (List ℕ) → List Segment
segments ends = segments_from (total (map length ends)) (first_places ends)

-- ---- plan

-- the segments of two columns, from their ends as they are handed in
abbrev pub segments_of : List ℤ → List ℤ → List Segment
segments_of a b = segments (map to_nat a ∷ map to_nat b ∷ [])

-- "`plan` needs na + nb entries per buffer"; it takes ends alone
unfoldable pub plan_asked : List ℤ → List ℤ → List ℕ → Question
plan_asked a b buffers =
    let n = length a + length b in
    first_no (ends_valid a ∷ ends_valid b ∷ room (n ∷ n ∷ n ∷ []) buffers ∷ [])

unfoldable pub plan : List ℤ → List ℤ → List ℕ → Outcome (List Segment)
plan a b buffers = plan_asked a b buffers otherwise segments_of a b

-- what is written of segments: their ends, and the index of column c in each
abbrev pub segment_ends : List Segment → List ℤ
segment_ends ss = map (λ (s : Segment). pos s.end) ss

abbrev pub indexes_of : ℕ → List Segment → List ℕ
indexes_of c ss = map (λ (s : Segment). get_or s.indexes c 0) ss

-- the promise: ends, indexes of the first column, indexes of the second, each buffer before and after
pub record WrittenPlan (o : Outcome (List Segment)) (r : Result ℕ Refusal) (e e' : List ℤ) (a a' b b' : List ℕ) : Type 0 where
  pub answer : outcome_of r ≡ counts length o
  pub ends : e' ≡ written segment_ends o e
  pub left : a' ≡ written (indexes_of 0) o a
  pub right : b' ≡ written (indexes_of 1) o b

-- of the buffers that a call is lent: question 12 is about their lengths
abbrev pub WritesPlan : (List ℕ → Outcome (List Segment)) → Lent ℤ → Lent ℕ → Lent ℕ → Result ℕ Refusal → Type 0
WritesPlan call e a b r =
    WrittenPlan (call (length (given e) ∷ length (given a) ∷ length (given b) ∷ [])) r (given e) (after e) (given a) (after a) (given b) (after b)

-- ---- a run for each segment

-- the value of each column's run at the indexes of a segment, or its fill where it is spent
abbrev pub values_for : List Column → List ℕ → List ℤ
values_for [] is = []
values_for (c ∷ cs) [] = []
values_for (c ∷ cs) (i ∷ is) = get_or (values_of c.runs) i (value_of c.fill) ∷ values_for cs is

abbrev pub segment_run : (ℤ → ℤ → ℤ) → List Column → Segment → Run
segment_run op cs s = record { end = s.end; value = folded op (values_for cs s.indexes) }

abbrev pub ends_in : Runs → List ℕ
ends_in rs = map (λ (r : Run). r.end) rs

-- "`zip_with_raw` keeps one run per segment"
unfoldable pub segment_runs : (ℤ → ℤ → ℤ) → List Column → Runs
segment_runs op cs = map (segment_run op cs) (segments (map (λ (c : Column). ends_in c.runs) cs))
