-- Worked examples of ranges_where, computed from its definition. A is document 01's: ends 3, 5, 9, values 7, 2, 7.
-- Assumes nothing.
use Rattle.std.specs.Prelude.{None}
use mathlib.Core.List.{List, [], ◌∷◌}
use mathlib.Core.Path.{refl}
use lib.IntN.{pos}
use Rattle.num.specs.Numbers.{operation}
use Rattle.column.specs.Paper.{Outcome, answers, counts}
use Rattle.column.specs.Questions.{listed, agree, paired, ends_from, ends_valid, room_at, room_from, room, sequence_asked}
use Rattle.column.specs.Runs.{Sequence, sequence, runs_of, dense_from, dense, joined, encode_from, encode}
use Rattle.column.proofs.Rows.{Lines, Row, row, Hold, refused}
use Rattle.ranges_where.specs.Calls.{Range, ranges_from, ranges_of, ranges_where_asked, ranges_where, range_starts, range_ends}

abbrev a : Sequence
a = sequence (pos 3 ∷ pos 5 ∷ pos 9 ∷ []) (pos 7 ∷ pos 2 ∷ pos 7 ∷ [])

abbrev as_ranges : Outcome (List Range) → Outcome Lines
as_ranges o = counts (λ rs. range_starts rs ∷ range_ends rs ∷ []) o

abbrev ranges : List Row
ranges =
    row (as_ranges (ranges_where a 7 (pos 7) (3 ∷ 3 ∷ []))) (answers ((pos 0 ∷ pos 5 ∷ []) ∷ (pos 3 ∷ pos 9 ∷ []) ∷ []))
    ∷ row (as_ranges (ranges_where a 8 (pos 8) (3 ∷ 3 ∷ []))) (answers ((pos 0 ∷ []) ∷ (pos 9 ∷ []) ∷ []))
    ∷ row (as_ranges (ranges_where a 9 (pos 8) (3 ∷ 3 ∷ []))) (refused 1 (pos 9 ∷ []) None)
    ∷ []

pub ranges_hold : Hold ranges
unfolding operation listed agree paired ends_from ends_valid room_at room_from room sequence_asked runs_of dense_from dense joined encode_from encode ranges_from
    ranges_of ranges_where_asked ranges_where range_starts range_ends
ranges_hold = (refl, (refl, (refl, tt)))
