-- Wanted keys in blocks, each found at once and kept: before the first.
-- Assumes nothing.
use Prim.Native.Nat.{ℕ, ◌<◌, ◌^◌}
use mathlib.Core.Bool.{Bool, true}
use mathlib.Core.List.{List}
use mathlib.Core.Path.{◌≡◌}
use lib.ListN.{length}
use Rattle.column.proofs.Blocks.{block_start}
use Rattle.batch_keys.specs.Workers.{block_size, Kept}

pub kept-start : {ks ws : List ℕ} {indexed : Bool} {bs : List ℕ} → (indexed ≡ true → length bs ≡ block_size) → (indexed ≡ true → length ks < 2 ^ 32)
    → Kept ks ws indexed bs 0
kept-start r f = record { few = f; block = λ t. block_start (r t) }
