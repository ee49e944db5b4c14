-- The seams of document 01 that are marked *, as rows of one table, computed from the definitions that the contracts and the claim cite.
-- Assumes nothing.
use Prim.Native.Nat.{ℕ, ◌+◌, ◌*◌, ◌^◌}
use mathlib.Core.Bool.{true, false}
use Rattle.std.specs.Prelude.{Option, Some, None}
use mathlib.Core.List.{List, [], ◌∷◌, map}
use mathlib.Core.Path.{refl}
use lib.IntN.{ℤ, pos, negsuc}
use lib.Ieee.{Float, nan, inf, fin, of_int}
use Rattle.num.specs.Numbers.{wrap, operation}
use Rattle.column.specs.Combine.{value_at, greatest_length, all_filled, row_at, each_position, table, combined}
use Rattle.column.specs.Asking.{each_from}
use Rattle.column.specs.Paper.{Outcome, answers, counts}
use Rattle.column.specs.Flat.{sequences_of, columns, offsets_from, flat_ends, flat_values}
use Rattle.column.specs.Lists.{parts_from}
use Rattle.column.specs.Questions.{listed, mask_listed, agree, paired, mask_agrees, offsets_valid, ends_from, ends_valid, sequences_valid, fits, filled, room_at}
use Rattle.column.specs.Questions.{room_from, room, sequence_asked}
use Rattle.column.specs.Runs.{Runs, runs_of, ends_of, values_of, length_of, dense_from, dense, joined, encode_from, encode}
use Rattle.column.proofs.Rows.{Lines, Row, row, Hold, refused, as_runs, as_entries}
use Rattle.float.specs.Float.{converted}
use Rattle.merge_plan.specs.Calls.{merge_plan_asked, merge_plan, group_ends, past_each, group_offsets}
use Rattle.merge_mask.specs.Calls.{Group, groups_from, groups}
use Rattle.ops.specs.Calls.{zip_asked}
use Rattle.ops.specs.Calls as ops
use Rattle.plan.specs.Calls.{Segment, segments_from, segments, segment_ends, indexes_of, plan_asked, plan}
use Rattle.reduce.specs.Calls.{fold_runs, sum_runs}
use Rattle.reduce.specs.Calls as reduce
use Rattle.slice.specs.Calls.{covering, run_index, slice_runs}
use Rattle.slice.specs.Calls as slice
use Rattle.shift.specs.Calls.{shift_values, shift}
use Rattle.transform.specs.Calls.{shown, concat_asked}
use Rattle.transform.specs.Calls as transform
use Rattle.cutting.specs.Cut.{◌then◌, in_turn}
use Rattle.cutting.specs.Claim.{sum}
use Rattle.cutting.proofs.Examples.{A, B, whole, pieces, join, as_total}

-- A and B added, with B's fill
abbrev add : Option ℤ → Outcome Runs
add fb = whole None fb 0 A B

-- what that comes to with the fill 0
abbrev added : Outcome Lines
added = answers ((pos 2 ∷ pos 3 ∷ pos 5 ∷ pos 9 ∷ []) ∷ (pos 8 ∷ pos 11 ∷ pos 6 ∷ pos 7 ∷ []) ∷ [])

abbrev parts : Outcome (List Runs)
parts = in_turn (pieces None (Some (pos 0)) 0 A B)

abbrev as_indexes : ℕ → List Segment → List ℤ
as_indexes c ss = map pos (indexes_of c ss)

abbrev as_plan : Outcome (List Segment) → Outcome Lines
as_plan o = counts (λ ss. segment_ends ss ∷ as_indexes 0 ss ∷ as_indexes 1 ss ∷ []) o

-- an index, or none
abbrev as_index : Option ℕ → List ℤ
as_index None = []
as_index (Some i) = pos i ∷ []

abbrev as_found : Outcome (Option ℕ) → Outcome Lines
as_found o = counts (λ i. as_index i ∷ []) o

abbrev as_groups : Outcome (List (Group ℤ)) → Outcome Lines
as_groups o = counts (λ gs. group_ends gs ∷ map pos (group_offsets gs) ∷ []) o

-- a float that is a whole number, not negative; any other is no line
abbrev as_whole : Float → Outcome Lines
as_whole (fin false m (pos k)) = answers ((pos (m * 2 ^ k) ∷ []) ∷ [])
as_whole (fin false m (negsuc k)) = answers []
as_whole (fin true m e) = answers []
as_whole (inf s) = answers []
as_whole nan = answers []

abbrev rows : List Row
rows =
    -- plan(A, B): ends 2, 3, 5, 9; indexes 0, 0, 1, 2 and 0, 1, 1, 2
    row (as_plan (plan A.ends B.ends (5 ∷ 5 ∷ 5 ∷ [])))
    (answers ((pos 2 ∷ pos 3 ∷ pos 5 ∷ pos 9 ∷ []) ∷ (pos 0 ∷ pos 0 ∷ pos 1 ∷ pos 2 ∷ []) ∷ (pos 0 ∷ pos 1 ∷ pos 1 ∷ pos 2 ∷ []) ∷ []))
    -- Add, B's fill 0: values 8, 11, 6, 7; sum 67
    ∷ row (as_runs (add (Some (pos 0)))) added
    ∷ row (as_total (add (Some (pos 0)) then sum)) (answers ((pos 67 ∷ []) ∷ []))
    -- The same without fill: 10, left 9, right 5
    ∷ row (as_runs (add None)) (refused 10 (pos 9 ∷ pos 5 ∷ []) None)
    -- The add cut at 0, 4, 4, 12: the joined runs above; sums 33, 0, 34
    ∷ row (as_runs (parts then join)) added
    ∷ row (as_entries (parts then λ rs. in_turn (map sum rs))) (answers ((pos 33 ∷ pos 0 ∷ pos 34 ∷ []) ∷ []))
    -- slice(A, 2, 6): ends 1, 3, 4. slice(A, 9, 12): empty
    ∷ row (as_runs (slice.slice A (pos 2) (pos 6) (3 ∷ 3 ∷ []))) (answers ((pos 1 ∷ pos 3 ∷ pos 4 ∷ []) ∷ (pos 7 ∷ pos 2 ∷ pos 7 ∷ []) ∷ []))
    ∷ row (as_runs (slice.slice A (pos 9) (pos 12) (0 ∷ 0 ∷ []))) (answers ([] ∷ [] ∷ []))
    -- run_index(A): position 2 gives 0, 3 gives 1, 8 gives 2; 9 and −1 none
    ∷ row (as_found (run_index A.ends (pos 2))) (answers ((pos 0 ∷ []) ∷ []))
    ∷ row (as_found (run_index A.ends (pos 3))) (answers ((pos 1 ∷ []) ∷ []))
    ∷ row (as_found (run_index A.ends (pos 8))) (answers ((pos 2 ∷ []) ∷ []))
    ∷ row (as_found (run_index A.ends (pos 9))) (answers ([] ∷ []))
    ∷ row (as_found (run_index A.ends (negsuc 0))) (answers ([] ∷ []))
    -- shift(A, 2, fill 7): ends 5, 7, 9, values 7, 2, 7
    ∷ row (as_runs (shift A (pos 2) (pos 7) (4 ∷ 4 ∷ []))) (answers ((pos 5 ∷ pos 7 ∷ pos 9 ∷ []) ∷ (pos 7 ∷ pos 2 ∷ pos 7 ∷ []) ∷ []))
    -- merge_plan(3, 5, 9; mask 1, 0): ends 5, 9; offsets 0, 2, 3
    ∷ row (as_groups (merge_plan A.ends (1 ∷ 0 ∷ []) (3 ∷ 4 ∷ []))) (answers ((pos 5 ∷ pos 9 ∷ []) ∷ (pos 0 ∷ pos 2 ∷ pos 3 ∷ []) ∷ []))
    -- 2^53 + 1 becomes 2^53; 2^53 + 3 becomes 2^53 + 4
    ∷ row (as_whole (converted (pos (2 ^ 53 + 1)))) (answers ((pos (2 ^ 53) ∷ []) ∷ []))
    ∷ row (as_whole (converted (pos (2 ^ 53 + 3)))) (answers ((pos (2 ^ 53 + 4) ∷ []) ∷ []))
    ∷ []

pub seams : Hold rows
unfolding wrap operation value_at greatest_length all_filled row_at each_position table combined each_from listed mask_listed agree paired ends_from ends_valid filled
    room_at room_from room sequence_asked runs_of ends_of values_of length_of dense_from dense joined encode_from encode zip_asked ops.zip_with segments_from segments
    plan_asked plan covering run_index slice.cut slice_runs slice.slice shown concat_asked transform.concat offsets_from flat_ends flat_values sequences_of parts_from
    columns offsets_valid sequences_valid fits shift_values shift groups_from groups mask_agrees merge_plan_asked merge_plan group_ends past_each fold_runs sum_runs
    reduce.sum of_int converted
seams = (refl, (refl, (refl, (refl, (refl, (refl, (refl, (refl, (refl, (refl, (refl, (refl, (refl, (refl, (refl, (refl, (refl, tt)))))))))))))))))
