-- Worked examples of merge_plan and group_ids, computed from their definitions.
-- Assumes nothing.
use Prim.Native.Nat.{ℕ}
use Rattle.std.specs.Prelude.{None}
use mathlib.Core.List.{List, [], ◌∷◌, map}
use mathlib.Core.Path.{refl}
use lib.IntN.{ℤ, pos}
use Rattle.column.specs.Asking.{each_from}
use Rattle.column.specs.Paper.{Outcome, answers, counts}
use Rattle.column.specs.Questions.{listed, mask_listed, agree, offsets_rise, ends_from, ends_valid, room_at, room_from, room, mask_agrees}
use Rattle.column.proofs.Rows.{Lines, Row, row, Hold, refused, as_entries}
use Rattle.merge_mask.specs.Calls.{Group, groups_from, groups}
use Rattle.merge_plan.specs.Calls.{merge_plan_asked, merge_plan, group_ends, past_each, group_offsets, ids_from, group_ids_asked, group_ids}

abbrev ends : List ℤ
ends = pos 3 ∷ pos 5 ∷ pos 9 ∷ []

-- what merge_plan writes into each buffer
abbrev as_groups : Outcome (List (Group ℤ)) → Outcome Lines
as_groups o = counts (λ gs. group_ends gs ∷ map pos (group_offsets gs) ∷ []) o

abbrev as_ids : Outcome (List ℕ) → Outcome Lines
as_ids o = as_entries (counts (map pos) o)

abbrev rows : List Row
rows =
    row (as_groups (merge_plan ends (1 ∷ 0 ∷ []) (3 ∷ 4 ∷ []))) (answers ((pos 5 ∷ pos 9 ∷ []) ∷ (pos 0 ∷ pos 2 ∷ pos 3 ∷ []) ∷ []))
    ∷ row (as_groups (merge_plan [] [] (0 ∷ 1 ∷ []))) (answers ([] ∷ (pos 0 ∷ []) ∷ []))
    ∷ row (as_groups (merge_plan [] [] (0 ∷ 0 ∷ []))) (refused 12 (pos 1 ∷ pos 1 ∷ pos 0 ∷ []) None)
    ∷ row (as_ids (group_ids (0 ∷ 2 ∷ 2 ∷ 3 ∷ []) (3 ∷ []))) (answers ((pos 0 ∷ pos 0 ∷ pos 2 ∷ []) ∷ []))
    ∷ row (as_ids (group_ids (1 ∷ 2 ∷ []) (2 ∷ []))) (refused 3 [] None)
    ∷ []

pub examples : Hold rows
unfolding each_from listed mask_listed agree offsets_rise ends_from ends_valid room_at room_from room groups_from groups mask_agrees merge_plan_asked merge_plan group_ends
    past_each ids_from group_ids_asked group_ids
examples = (refl, (refl, (refl, (refl, (refl, tt)))))
