-- A worked example of concat of two batches, computed from its definition: key 5 is in both, keys 2 and 9 are in one alone.
-- Assumes nothing.
use mathlib.Core.List.{[], ◌∷◌}
use mathlib.Core.Path.{◌≡◌, refl}
use lib.IntN.{pos}
use Rattle.column.specs.Asking.{each_from}
use Rattle.column.specs.Flat.{sequences_of, columns, offsets_from, flat_ends, flat_values}
use Rattle.column.specs.Lists.{parts_from}
use Rattle.column.specs.Paper.{answers}
use Rattle.column.specs.Questions.{agree, paired, offsets_valid, ends_from, ends_valid, sequences_valid, fits, room_at, room_from, room}
use Rattle.column.specs.Runs.{runs_of, ends_of, values_of, length_of, dense_from, dense, joined, encode_from, encode}
use Rattle.transform.specs.Calls.{shown}
use Rattle.batch_keys.specs.Calls.{once_from, once}
use Rattle.batch.specs.Batch.{entries_from, entries, keyed, both_valid, find}
use Rattle.batch.proofs.Rows.{a, b, as_batch}
use Rattle.batch_concat.specs.Calls.{fit_keys, concat}

pub example : as_batch (concat a b (4 ∷ 5 ∷ 5 ∷ 5 ∷ []))
    ≡ answers ((pos 5 ∷ pos 2 ∷ pos 9 ∷ []) ∷ (pos 0 ∷ pos 2 ∷ pos 3 ∷ pos 4 ∷ []) ∷ (pos 2 ∷ pos 4 ∷ pos 1 ∷ pos 2 ∷ []) ∷ (pos 7 ∷ pos 4 ∷ pos 1 ∷ pos 8 ∷ [])
    ∷ [])
unfolding agree paired offsets_valid ends_from ends_valid sequences_valid each_from fits room_at room_from room runs_of ends_of values_of length_of dense_from
    dense joined encode_from encode parts_from sequences_of columns offsets_from flat_ends flat_values shown once_from once entries_from entries keyed
    both_valid find fit_keys concat
example = refl
