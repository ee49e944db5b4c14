-- Worked examples of slice_reduce of a batch, computed from its definition: an absent key, and key 5, which shows 7, 7, 4.
-- Assumes nothing.
use mathlib.Core.List.{[], ◌∷◌}
use mathlib.Core.Path.{◌≡◌, refl}
use lib.IntN.{pos}
use Rattle.num.specs.Numbers.{wrap}
use Rattle.column.specs.Asking.{each_from}
use Rattle.column.specs.Flat.{sequences_of, columns}
use Rattle.column.specs.Lists.{parts_from}
use Rattle.column.specs.Paper.{answers}
use Rattle.column.specs.Questions.{listed, agree, paired, offsets_valid, ends_from, ends_valid, sequences_valid, interval_at, intervals, room_at, room_from, room}
use Rattle.column.specs.Runs.{runs_of, length_of}
use Rattle.slice.specs.Calls.{cut, slice_runs}
use Rattle.reduce.specs.declared.Reduction.TheVariants.{Whole, Nothing}
use Rattle.reduce.specs.Calls.{fold_runs, sum_runs, reduction}
use Rattle.batch.specs.Batch.{entries_from, entries, keyed, find}
use Rattle.batch.proofs.Rows.{a}
use Rattle.batch_intervals.specs.Calls.{item_runs}
use Rattle.batch_slice_reduce.specs.Calls.{slice_reduce_asked, slice_reduce}

-- the sums, and the mean of the absent key
pub examples : (slice_reduce a (9 ∷ 5 ∷ []) (pos 0 ∷ pos 1 ∷ []) (pos 3 ∷ pos 3 ∷ []) 0 (pos 0) (2 ∷ 2 ∷ []) ≡ answers (Whole (pos 0) ∷ Whole (pos 11) ∷ []))
    × (slice_reduce a (9 ∷ []) (pos 0 ∷ []) (pos 3 ∷ []) 1 (pos 0) (1 ∷ 1 ∷ []) ≡ answers (Nothing ∷ []))
unfolding listed agree paired offsets_valid ends_from ends_valid sequences_valid interval_at intervals each_from room_at room_from room runs_of length_of
    parts_from sequences_of columns cut slice_runs wrap fold_runs sum_runs reduction entries_from entries keyed find item_runs slice_reduce_asked slice_reduce
examples = (refl, refl)
