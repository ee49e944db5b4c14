-- The claim's own words, as rows of a table, computed from its definitions: each row is one that a wrong reading would change.
-- Assumes nothing.
use Rattle.std.specs.Prelude.{Option, None}
use Prim.Native.Nat.{ℕ, ◌^◌}
use mathlib.Core.Bool.{Bool, true, false, cond}
use mathlib.Core.List.{List, [], ◌∷◌, map}
use mathlib.Core.Path.{refl}
use lib.IntN.{ℤ, pos, negsuc}
use Rattle.num.specs.Numbers.{wrap, operation}
use Rattle.column.specs.Combine.{value_at, greatest_length, all_filled, row_at, each_position, table, combined}
use Rattle.column.specs.Asking.{each_from}
use Rattle.column.specs.Paper.{Outcome, answers, counts}
use Rattle.column.specs.Flat.{sequences_of, columns, offsets_from, flat_offsets, flat_ends, flat_values}
use Rattle.column.specs.Lists.{parts_from}
use Rattle.column.specs.Questions.{listed, agree, paired, offsets_valid, ends_from, ends_valid, sequences_valid, fits, filled, room_at, room_from, room}
use Rattle.column.specs.Questions.{sequence_asked}
use Rattle.column.specs.Runs.{Sequence, sequence, Runs, runs, runs_of, ends_of, values_of, length_of, dense_from, dense, joined, encode_from, encode}
use Rattle.column.proofs.Rows.{Lines, Row, row, Hold, as_runs}
use Rattle.ops.specs.Calls.{zip_asked}
use Rattle.ops.specs.Calls as ops
use Rattle.plan.specs.Calls.{segments_from, segments, segment_runs}
use Rattle.slice.specs.Calls.{slice_runs}
use Rattle.slice.specs.Calls as slice
use Rattle.transform.specs.Calls.{shown, concat_asked}
use Rattle.transform.specs.Calls as transform
use Rattle.batch.specs.Batch.{Entry, keys_of, columns_of, batch_valid, entries_from, entries}
use Rattle.batch.specs.Batch as batch
use Rattle.batch_map_rles.specs.Calls.{each_asked, map_rles_slice}
use Rattle.cutting.specs.Cut.{cut_points, spans, numbered, batch_of, ◌then◌, in_turn, refused_with, some_refused_with, add_wrapping}
use Rattle.cutting.specs.Claim.{cut_batch, zip_with, concat, Call, combines_whole, cuts, joins, zip_pieces}

-- document 01's A and B
abbrev pub A : Sequence
A = sequence (pos 3 ∷ pos 5 ∷ pos 9 ∷ []) (pos 7 ∷ pos 2 ∷ pos 7 ∷ [])

abbrev pub B : Sequence
B = sequence (pos 2 ∷ pos 5 ∷ []) (pos 1 ∷ pos 4 ∷ [])

-- buffers exactly as long as document 01 asks
abbrev pub exactly : Call → List ℕ → List ℕ
exactly call needed = needed

-- two sequences combined, and their pieces, cut at 0, 4, 4, 12
abbrev pub whole : Option ℤ → Option ℤ → ℕ → Sequence → Sequence → Outcome Runs
whole fa fb code a b = zip_with (exactly combines_whole) fa fb code a b

abbrev pub points : List ℤ
points = pos 0 ∷ pos 4 ∷ pos 4 ∷ pos 12 ∷ []

abbrev pub pieces : Option ℤ → Option ℤ → ℕ → Sequence → Sequence → List (Outcome Runs)
pieces fa fb code a b = numbered (zip_pieces exactly fa fb code a b) 0 (spans points)

abbrev pub join : List Runs → Outcome Runs
join parts = concat (exactly (joins 0)) parts

abbrev pub as_total : Outcome ℤ → Outcome Lines
as_total o = counts (λ z. (z ∷ []) ∷ []) o

abbrev as_test : Bool → Outcome Lines
as_test b = as_total (answers (cond b (pos 1) (pos 0)))

-- a batch of A and B
abbrev keyed : List Entry
keyed = record { key = 5; runs = runs A } ∷ record { key = 6; runs = runs B } ∷ []

abbrev as_batch : Outcome (List Entry) → Outcome Lines
as_batch o = counts (λ es. map pos (keys_of es) ∷ map pos (flat_offsets (columns_of es)) ∷ []) o

abbrev rows : List Row
rows =
    -- cut points start at 0, never fall and reach the longest length; they are two or more, and i64
    row (as_test (cut_points 9 points)) (as_test true)
    ∷ row (as_test (cut_points 9 (pos 1 ∷ pos 12 ∷ []))) (as_test false)
    ∷ row (as_test (cut_points 9 (pos 0 ∷ pos 12 ∷ pos 9 ∷ []))) (as_test false)
    ∷ row (as_test (cut_points 9 (pos 0 ∷ pos 8 ∷ []))) (as_test false)
    ∷ row (as_test (cut_points 0 (pos 0 ∷ []))) (as_test false)
    ∷ row (as_test (cut_points 9 (pos 0 ∷ pos (2 ^ 63) ∷ []))) (as_test false)
    -- without fill some set of pieces is refused with 10, as the whole is; the first is not
    ∷ row (as_test (some_refused_with 10 (pieces None None 0 A B))) (as_test (refused_with 10 (whole None None 0 A B)))
    -- A less itself is a single run, and so is what its pieces join up to; raw, it has a run for each segment: "Raw results do not join up"
    ∷ row (as_runs (whole None None 1 A A)) (answers ((pos 9 ∷ []) ∷ (pos 0 ∷ []) ∷ []))
    ∷ row (as_runs (in_turn (pieces None None 1 A A) then join)) (as_runs (whole None None 1 A A))
    ∷ row (as_runs (ops.zip_with_raw A A None None 1 (6 ∷ 6 ∷ []))) (answers ((pos 3 ∷ pos 5 ∷ pos 9 ∷ []) ∷ (pos 0 ∷ pos 0 ∷ pos 0 ∷ []) ∷ []))
    -- past the end of every key the slice keeps the keys
    ∷ row (as_batch (cut_batch (exactly (cuts 0 0)) (record { start = pos 9; end = pos 12 }) (batch_of keyed)))
    (answers ((pos 5 ∷ pos 6 ∷ []) ∷ (pos 0 ∷ pos 0 ∷ pos 0 ∷ []) ∷ []))
    -- sums wrap
    ∷ row (as_total (answers (add_wrapping (pos 0) (pos 0x7fffffffffffffff ∷ pos 1 ∷ [])))) (as_total (answers (negsuc 0x7fffffffffffffff)))
    ∷ []

pub examples : Hold rows
unfolding add_wrapping batch.keyed each_asked batch_valid map_rles_slice entries_from entries wrap operation value_at greatest_length all_filled row_at each_position table
    combined each_from listed agree paired ends_from ends_valid filled room_at room_from room sequence_asked runs_of ends_of values_of length_of dense_from dense joined
    encode_from encode zip_asked ops.zip_with ops.zip_with_raw segments_from segments segment_runs slice.cut slice_runs slice.slice shown concat_asked transform.concat
    offsets_from flat_ends flat_values sequences_of parts_from columns offsets_valid sequences_valid fits
examples = (refl, (refl, (refl, (refl, (refl, (refl, (refl, (refl, (refl, (refl, (refl, (refl, tt))))))))))))
