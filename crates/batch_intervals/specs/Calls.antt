-- batch.rs: the slices that getitems and slice_reduce take, intervals of which each has a key.
use Rattle.std.specs.Prelude.{ℕ, List, [], ◌∷◌, ℤ}
use Rattle.column.specs.Runs.{Runs}
use Rattle.slice.specs.Calls.{slice_runs}
use Rattle.batch.specs.Batch.{Entry, find}

-- the slice of each interval, of the sequence of its key
unfoldable pub item_runs : List ℕ → List ℤ → List ℤ → List Entry → List Runs
item_runs [] ss es b = []
item_runs (k ∷ ks) [] es b = []
item_runs (k ∷ ks) (s ∷ ss) [] b = []
item_runs (k ∷ ks) (s ∷ ss) (e ∷ es) b = slice_runs s e (find k b) ∷ item_runs ks ss es b
