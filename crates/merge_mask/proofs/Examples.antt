-- Worked examples of the calls of merge.rs, computed from their definitions. A is document 01's: ends 3, 5, 9, values 7, 2, 7.
-- Assumes nothing.
use Rattle.std.specs.Prelude.{None}
use mathlib.Core.List.{List, [], ◌∷◌}
use mathlib.Core.Path.{refl}
use lib.IntN.{ℤ, pos}
use Rattle.num.specs.Numbers.{operation}
use Rattle.column.specs.Asking.{each_from}
use Rattle.column.specs.Paper.{answers}
use Rattle.column.specs.Questions.{listed, mask_listed, agree, paired, ends_from, ends_valid, room_at, room_from, room, sequence_asked, mask_agrees}
use Rattle.column.specs.Runs.{Sequence, sequence, runs_of, ends_of, values_of}
use Rattle.column.proofs.Rows.{Row, row, Hold, refused, as_runs}
use Rattle.merge_mask.specs.Calls.{groups_from, groups, mask_runs, merge_mask_asked, merge_mask, neighbours, merge_by_asked, merge_by}

abbrev ends : List ℤ
ends = pos 3 ∷ pos 5 ∷ pos 9 ∷ []

abbrev a : Sequence
a = sequence ends (pos 7 ∷ pos 2 ∷ pos 7 ∷ [])

abbrev rows : List Row
rows =
    row (as_runs (merge_mask a (1 ∷ 0 ∷ []) 0 (3 ∷ 3 ∷ []))) (answers ((pos 5 ∷ pos 9 ∷ []) ∷ (pos 7 ∷ pos 7 ∷ []) ∷ []))
    ∷ row (as_runs (merge_mask a (1 ∷ 0 ∷ []) 1 (3 ∷ 3 ∷ []))) (answers ((pos 5 ∷ pos 9 ∷ []) ∷ (pos 2 ∷ pos 7 ∷ []) ∷ []))
    ∷ row (as_runs (merge_mask a (1 ∷ 0 ∷ 2 ∷ 3 ∷ []) 0 (0 ∷ 0 ∷ []))) (refused 1 (pos 2 ∷ []) None)
    ∷ row (as_runs (merge_mask a (1 ∷ []) 0 (0 ∷ 0 ∷ []))) (refused 2 (pos 6 ∷ pos 1 ∷ pos 2 ∷ []) None)
    ∷ row (as_runs (merge_by (sequence ends (pos 3 ∷ pos 5 ∷ pos 4 ∷ [])) 8 (3 ∷ 3 ∷ []))) (answers ((pos 5 ∷ pos 9 ∷ []) ∷ (pos 3 ∷ pos 4 ∷ []) ∷ []))
    ∷ row (as_runs (merge_by a 0 (3 ∷ 3 ∷ []))) (refused 1 (pos 0 ∷ []) None)
    ∷ []

pub examples : Hold rows
unfolding operation each_from listed mask_listed agree paired ends_from ends_valid room_at room_from room sequence_asked runs_of ends_of values_of groups_from groups
    mask_agrees mask_runs merge_mask_asked merge_mask neighbours merge_by_asked merge_by
examples = (refl, (refl, (refl, (refl, (refl, (refl, tt))))))
