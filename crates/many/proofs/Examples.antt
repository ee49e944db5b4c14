-- Worked examples of `plan_many`, computed from its definition. A and B are document 01's: ends 3, 5, 9 and 2, 5.
-- Assumes nothing.
use Prim.Native.Nat.{ℕ}
use Rattle.std.specs.Prelude.{Some, None}
use mathlib.Core.List.{List, [], ◌∷◌, map}
use mathlib.Core.Path.{refl}
use lib.IntN.{ℤ, pos}
use lib.ListN.{replicate}
use Rattle.column.specs.Asking.{each_from}
use Rattle.column.specs.Flat.{Flat, flat, sequences_of, columns}
use Rattle.column.specs.Lists.{parts_from}
use Rattle.column.specs.Paper.{Outcome, answers, counts}
use Rattle.column.specs.Questions.{agree, paired, offsets_valid, ends_from, ends_valid, sequences_valid, at_most, room_at, room_from, room}
use Rattle.column.specs.Runs.{runs_of}
use Rattle.column.proofs.Rows.{Lines, Row, row, Hold, refused}
use Rattle.plan.specs.Calls.{Segment, segments_from, segments, segment_ends}
use Rattle.many.specs.Calls.{all_indexes, plan_many_asked, plan_many}

abbrev as_plan : Outcome (List Segment) → Outcome Lines
as_plan o = counts (λ ss. segment_ends ss ∷ map pos (all_indexes ss) ∷ []) o

-- columns of ends, each with the values 0
abbrev of_ends : List ℕ → List ℤ → Flat
of_ends os es = flat os es (map (λ (e : ℤ). pos 0) es)

abbrev one : Flat
one = of_ends (0 ∷ 3 ∷ []) (pos 3 ∷ pos 5 ∷ pos 9 ∷ [])

-- A and B, of unequal lengths: both end a run at 5
abbrev two : Flat
two = of_ends (0 ∷ 3 ∷ 5 ∷ []) (pos 3 ∷ pos 5 ∷ pos 9 ∷ pos 2 ∷ pos 5 ∷ [])

-- an empty column between two that end together
abbrev three : Flat
three = of_ends (0 ∷ 1 ∷ 1 ∷ 2 ∷ []) (pos 4 ∷ pos 4 ∷ [])

-- two columns, of which the second does not rise
abbrev falling : Flat
falling = of_ends (0 ∷ 1 ∷ 3 ∷ []) (pos 4 ∷ pos 2 ∷ pos 2 ∷ [])

abbrev rows : List Row
rows =
    row (as_plan (plan_many (of_ends (0 ∷ []) []) (0 ∷ 0 ∷ []))) (answers ([] ∷ [] ∷ []))
    ∷ row (as_plan (plan_many one (3 ∷ 3 ∷ []))) (answers ((pos 3 ∷ pos 5 ∷ pos 9 ∷ []) ∷ (pos 0 ∷ pos 1 ∷ pos 2 ∷ []) ∷ []))
    -- as `plan` of A and B, the indexes segment after segment
    ∷ row (as_plan (plan_many two (5 ∷ 10 ∷ [])))
    (answers ((pos 2 ∷ pos 3 ∷ pos 5 ∷ pos 9 ∷ []) ∷ (pos 0 ∷ pos 0 ∷ pos 0 ∷ pos 1 ∷ pos 1 ∷ pos 1 ∷ pos 2 ∷ pos 2 ∷ []) ∷ []))
    ∷ row (as_plan (plan_many three (2 ∷ 6 ∷ []))) (answers ((pos 4 ∷ []) ∷ (pos 0 ∷ pos 0 ∷ pos 0 ∷ []) ∷ []))
    ∷ row (as_plan (plan_many two (5 ∷ 9 ∷ []))) (refused 12 (pos 1 ∷ pos 10 ∷ pos 9 ∷ []) None)
    ∷ row (as_plan (plan_many falling (3 ∷ 6 ∷ []))) (refused 4 (pos 1 ∷ []) (Some 1))
    ∷ row (as_plan (plan_many (of_ends (replicate 130 0) []) (0 ∷ 0 ∷ []))) (refused 5 (pos 129 ∷ []) None)
    ∷ []

pub examples : Hold rows
unfolding each_from sequences_of columns parts_from agree paired offsets_valid ends_from ends_valid sequences_valid at_most room_at room_from room runs_of segments_from
    segments plan_many_asked plan_many
examples = (refl, (refl, (refl, (refl, (refl, (refl, (refl, tt)))))))
