-- Worked examples of zip_with of two batches, computed from its definition: key 5 is in both, key 2 in the left alone, key 9 in the right alone.
-- Assumes nothing.
use Rattle.std.specs.Prelude.{Some, None}
use mathlib.Core.List.{List, [], ◌∷◌}
use mathlib.Core.Path.{refl}
use Prim.Native.Nat.{ℕ}
use lib.IntN.{pos}
use Rattle.num.specs.Numbers.{wrap, operation}
use Rattle.column.specs.Asking.{each_from}
use Rattle.column.specs.Combine.{value_at, greatest_length, all_filled, row_at, each_position, table, combined}
use Rattle.column.specs.Flat.{sequences_of, columns, offsets_from, flat_ends, flat_values}
use Rattle.column.specs.Lists.{parts_from}
use Rattle.column.specs.Paper.{Outcome, answers}
use Rattle.column.specs.Questions.{listed, agree, paired, offsets_valid, ends_from, ends_valid, sequences_valid, filled, room_at, room_from, room}
use Rattle.column.specs.Runs.{runs_of, ends_of, values_of, length_of, dense_from, dense, joined, encode_from, encode}
use Rattle.column.proofs.Rows.{Lines, Row, row, Hold, refused}
use Rattle.batch.specs.Batch.{entries_from, entries, keyed, both_valid, has, find}
use Rattle.batch.proofs.Rows.{a, b, as_batch}
use Rattle.batch_zip_with.specs.Calls.{pairs, filled_pairs, zip_asked, zip_with}

-- the sum, with fill 0
abbrev joined_by : ℕ → Outcome Lines
joined_by how = as_batch (zip_with a b how (Some (pos 0)) (Some (pos 0)) 0 (4 ∷ 5 ∷ 5 ∷ 5 ∷ []))

-- outer, inner, left and right; and a fill that is missing
abbrev rows : List Row
rows =
    row (joined_by 0)
    (answers ((pos 5 ∷ pos 2 ∷ pos 9 ∷ []) ∷ (pos 0 ∷ pos 3 ∷ pos 4 ∷ pos 5 ∷ []) ∷ (pos 1 ∷ pos 2 ∷ pos 3 ∷ pos 1 ∷ pos 2 ∷ [])
    ∷ (pos 11 ∷ pos 7 ∷ pos 4 ∷ pos 1 ∷ pos 8 ∷ []) ∷ []))
    ∷ row (joined_by 1) (answers ((pos 5 ∷ []) ∷ (pos 0 ∷ pos 3 ∷ []) ∷ (pos 1 ∷ pos 2 ∷ pos 3 ∷ []) ∷ (pos 11 ∷ pos 7 ∷ pos 4 ∷ []) ∷ []))
    ∷ row (joined_by 2)
    (answers ((pos 5 ∷ pos 2 ∷ []) ∷ (pos 0 ∷ pos 3 ∷ pos 4 ∷ []) ∷ (pos 1 ∷ pos 2 ∷ pos 3 ∷ pos 1 ∷ []) ∷ (pos 11 ∷ pos 7 ∷ pos 4 ∷ pos 1 ∷ []) ∷ []))
    ∷ row (joined_by 3)
    (answers ((pos 5 ∷ pos 9 ∷ []) ∷ (pos 0 ∷ pos 3 ∷ pos 4 ∷ []) ∷ (pos 1 ∷ pos 2 ∷ pos 3 ∷ pos 2 ∷ []) ∷ (pos 11 ∷ pos 7 ∷ pos 4 ∷ pos 8 ∷ []) ∷ []))
    ∷ row (as_batch (zip_with a b 2 (Some (pos 0)) None 0 (4 ∷ 5 ∷ 5 ∷ 5 ∷ []))) (refused 10 (pos 3 ∷ pos 1 ∷ []) (Some 0))
    ∷ []

pub examples : Hold rows
unfolding listed agree paired offsets_valid ends_from ends_valid sequences_valid filled each_from room_at room_from room runs_of ends_of values_of length_of
    dense_from dense joined encode_from encode parts_from sequences_of columns offsets_from flat_ends flat_values value_at greatest_length all_filled row_at
    each_position table combined wrap operation entries_from entries keyed both_valid has find pairs filled_pairs zip_asked zip_with
examples = (refl, (refl, (refl, (refl, (refl, tt)))))
