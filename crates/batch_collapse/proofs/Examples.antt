-- Worked examples of collapse, computed from its definition. The keys 5, 2 and 7 show 1, then 4, then 2, 2; the new keys are 8, 3 and 8: the
-- group of 8 starts from its shortest member, and that of 3 has one.
-- Assumes nothing.
use Rattle.std.specs.Prelude.{Some, Option, None, ℤ}
use mathlib.Core.List.{List, [], ◌∷◌}
use mathlib.Core.Path.{refl}
use lib.IntN.{pos}
use Rattle.num.specs.Numbers.{wrap, operation}
use Rattle.column.specs.Asking.{each_from}
use Rattle.column.specs.Combine.{value_at, greatest_length, all_filled, row_at, each_position, table, combined}
use Rattle.column.specs.Flat.{sequences_of, columns, offsets_from, flat_ends, flat_values}
use Rattle.column.specs.Lists.{parts_from}
use Rattle.column.specs.Paper.{Outcome, answers}
use Rattle.column.specs.Questions.{listed, agree, paired, offsets_valid, ends_from, ends_valid, sequences_valid, filled, room_at, room_from, room}
use Rattle.column.specs.Runs.{runs_of, ends_of, values_of, length_of, dense_from, dense, joined, encode_from, encode}
use Rattle.column.proofs.Rows.{Lines, Row, row, Hold, refused}
use Rattle.batch_keys.specs.Calls.{once_from, once}
use Rattle.batch.specs.Batch.{batch, entries_from, keyed}
use Rattle.batch.proofs.Rows.{as_batch}
use Rattle.batch_collapse.specs.Calls.{collapse_from, collapse_runs, filled_from, filled_group, members, collapse_asked, filled_groups, collapse}

-- the sum
abbrev summed : Option ℤ → Outcome Lines
summed fill =
    let c = batch (5 ∷ 2 ∷ 7 ∷ []) (0 ∷ 1 ∷ 2 ∷ 3 ∷ []) (pos 1 ∷ pos 1 ∷ pos 2 ∷ []) (pos 1 ∷ pos 4 ∷ pos 2 ∷ []) in
    as_batch (collapse c (8 ∷ 3 ∷ 8 ∷ []) fill 0 (3 ∷ 4 ∷ 3 ∷ 3 ∷ 6 ∷ 6 ∷ []))

abbrev rows : List Row
rows =
    row (summed (Some (pos 10)))
    (answers ((pos 8 ∷ pos 3 ∷ []) ∷ (pos 0 ∷ pos 2 ∷ pos 3 ∷ []) ∷ (pos 1 ∷ pos 2 ∷ pos 1 ∷ []) ∷ (pos 3 ∷ pos 12 ∷ pos 4 ∷ []) ∷ []))
    ∷ row (summed None) (refused 10 (pos 1 ∷ pos 2 ∷ []) (Some 0))
    ∷ []

pub examples : Hold rows
unfolding listed agree paired offsets_valid ends_from ends_valid sequences_valid filled each_from room_at room_from room runs_of ends_of values_of length_of
    dense_from dense joined encode_from encode parts_from sequences_of columns offsets_from flat_ends flat_values value_at greatest_length all_filled row_at
    each_position table combined wrap operation once_from once entries_from keyed collapse_from collapse_runs filled_from filled_group members collapse_asked
    filled_groups collapse
examples = (refl, (refl, tt))
