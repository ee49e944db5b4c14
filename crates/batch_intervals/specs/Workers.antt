-- What the workers require.
use Rattle.std.specs.Prelude.{ℕ, List, ◌≡◌, ℤ, length}
use Rattle.batch.specs.Batch.{Batch}
use Rattle.batch.specs.Workers.{ValidBatch}

-- a valid batch, and intervals of which each has a key: as many keys, starts and stops
pub record Intervals (b : Batch) (keys : List ℕ) (starts stops : List ℤ) : Type 0 where
  pub batch : ValidBatch b
  pub keyed : length keys ≡ length starts
  pub paired : length starts ≡ length stops
