-- What the workers require.
use Rattle.std.specs.Prelude.{ℕ, ◌+◌, ◌≤◌, List, map, ℤ, length}
use Rattle.column.specs.Lists.{total}
use Rattle.batch.specs.Batch.{Batch, entries}
use Rattle.batch_intervals.specs.Workers.{Intervals}
use Rattle.batch_intervals.specs.Calls.{item_runs}

-- intervals, and room for their slices
pub record Gettable (b : Batch) (keys : List ℕ) (starts stops : List ℤ) (x : List ℕ) (e v : List ℤ) : Type 0 where
  pub intervals : Intervals b keys starts stops
  pub room_offsets : length starts + 1 ≤ length x
  pub room_ends : total (map length (item_runs keys starts stops (entries b))) ≤ length e
  pub room_values : total (map length (item_runs keys starts stops (entries b))) ≤ length v
