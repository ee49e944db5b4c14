-- Worked examples of `zip_many`, computed from its definition. A and B are document 01's: ends 3, 5, 9 and 2, 5, values 7, 2, 7 and 1, 4.
-- Assumes nothing.
use Rattle.std.specs.Prelude.{None, Some}
use mathlib.Core.List.{List, [], ◌∷◌}
use mathlib.Core.Path.{refl}
use lib.IntN.{pos, negsuc}
use Rattle.num.specs.Numbers.{wrap, operation}
use Rattle.column.specs.Asking.{each_from}
use Rattle.column.specs.Combine.{value_at, greatest_length, all_filled, row_at, each_position, table, combined}
use Rattle.column.specs.Flat.{Flat, flat, sequences_of, columns}
use Rattle.column.specs.Lists.{parts_from}
use Rattle.column.specs.Paper.{answers}
use Rattle.column.specs.Questions.{listed, agree, paired, offsets_valid, ends_from, ends_valid, sequences_valid, at_most, filled, room_at, room_from, room}
use Rattle.column.specs.Runs.{runs_of, ends_of, values_of, length_of, dense_from, dense, joined, encode_from, encode}
use Rattle.column.proofs.Rows.{Row, row, Hold, refused, as_runs}
use Rattle.zip_many.specs.Calls.{zip_many_asked, zip_many}

abbrev nothing : Flat
nothing = flat (0 ∷ []) [] []

abbrev one : Flat
one = flat (0 ∷ 3 ∷ []) (pos 3 ∷ pos 5 ∷ pos 9 ∷ []) (pos 7 ∷ pos 2 ∷ pos 7 ∷ [])

-- A and B, of unequal lengths: both end a run at 5
abbrev two : Flat
two = flat (0 ∷ 3 ∷ 5 ∷ []) (pos 3 ∷ pos 5 ∷ pos 9 ∷ pos 2 ∷ pos 5 ∷ []) (pos 7 ∷ pos 2 ∷ pos 7 ∷ pos 1 ∷ pos 4 ∷ [])

-- A, B and A
abbrev three : Flat
three =
    flat (0 ∷ 3 ∷ 5 ∷ 8 ∷ []) (pos 3 ∷ pos 5 ∷ pos 9 ∷ pos 2 ∷ pos 5 ∷ pos 3 ∷ pos 5 ∷ pos 9 ∷ [])
    (pos 7 ∷ pos 2 ∷ pos 7 ∷ pos 1 ∷ pos 4 ∷ pos 7 ∷ pos 2 ∷ pos 7 ∷ [])

-- A twice
abbrev twice : Flat
twice = flat (0 ∷ 3 ∷ 6 ∷ []) (pos 3 ∷ pos 5 ∷ pos 9 ∷ pos 3 ∷ pos 5 ∷ pos 9 ∷ []) (pos 7 ∷ pos 2 ∷ pos 7 ∷ pos 7 ∷ pos 2 ∷ pos 7 ∷ [])

abbrev rows : List Row
rows =
    -- "one sequence gives its own value, none gives nothing"
    row (as_runs (zip_many nothing None 0 (0 ∷ 0 ∷ []))) (answers ([] ∷ [] ∷ []))
    ∷ row (as_runs (zip_many one None 1 (3 ∷ 3 ∷ []))) (answers ((pos 3 ∷ pos 5 ∷ pos 9 ∷ []) ∷ (pos 7 ∷ pos 2 ∷ pos 7 ∷ []) ∷ []))
    -- A and B added, with the fill 0 and without it
    ∷ row (as_runs (zip_many two (Some (pos 0)) 0 (5 ∷ 5 ∷ []))) (answers ((pos 2 ∷ pos 3 ∷ pos 5 ∷ pos 9 ∷ []) ∷ (pos 8 ∷ pos 11 ∷ pos 6 ∷ pos 7 ∷ []) ∷ []))
    ∷ row (as_runs (zip_many two None 0 (5 ∷ 5 ∷ []))) (refused 10 (pos 5 ∷ pos 9 ∷ []) None)
    -- from the first: A less B, less A; from 5 on the fill 10 stands for B
    ∷ row (as_runs (zip_many three (Some (pos 10)) 1 (8 ∷ 8 ∷ []))) (answers ((pos 2 ∷ pos 5 ∷ pos 9 ∷ []) ∷ (negsuc 0 ∷ negsuc 3 ∷ negsuc 9 ∷ []) ∷ []))
    -- coinciding ends, merged: A less itself
    ∷ row (as_runs (zip_many twice None 1 (6 ∷ 6 ∷ []))) (answers ((pos 9 ∷ []) ∷ (pos 0 ∷ []) ∷ []))
    ∷ row (as_runs (zip_many twice None 10 (6 ∷ 6 ∷ []))) (refused 1 (pos 10 ∷ []) None)
    ∷ row (as_runs (zip_many twice None 1 (6 ∷ 5 ∷ []))) (refused 12 (pos 1 ∷ pos 6 ∷ pos 5 ∷ []) None)
    ∷ []

pub examples : Hold rows
unfolding wrap operation each_from value_at greatest_length all_filled row_at each_position table combined sequences_of columns parts_from listed agree paired
    offsets_valid ends_from ends_valid sequences_valid at_most filled room_at room_from room runs_of ends_of values_of length_of dense_from dense joined encode_from encode
    zip_many_asked zip_many
examples = (refl, (refl, (refl, (refl, (refl, (refl, (refl, (refl, tt))))))))
