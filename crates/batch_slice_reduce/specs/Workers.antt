-- What the workers require.
use Rattle.std.specs.Prelude.{ℕ, ◌≤◌, List, ℤ, length}
use Rattle.batch.specs.Batch.{Batch}
use Rattle.batch_intervals.specs.Workers.{Intervals}

-- intervals, and room for the reductions of their slices
pub record Reducible (b : Batch) (keys : List ℕ) (starts stops : List ℤ) (k w : List ℕ) : Type 0 where
  pub intervals : Intervals b keys starts stops
  pub room_kinds : length starts ≤ length k
  pub room_bits : length starts ≤ length w
