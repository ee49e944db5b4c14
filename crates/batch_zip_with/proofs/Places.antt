-- The places of the keys of two batches: how many there are, and which place each gives.
-- Assumes nothing.
use Prim.Native.Nat.{ℕ, ◌+◌, ◌≤◌}
use mathlib.Core.List.{List}
use mathlib.Core.Path.{◌≡◌}
use native.Mathlib.Omega.{arith}
use lib.Dec.{ltb}
use lib.ListN.{length}
use Rattle.num.proofs.Tests.{by-test}
use Rattle.batch_zip_with.specs.Calls.{keeps_right}
use Rattle.batch_zip_with.specs.Workers.{places_of, pair_at}

-- ---- how many places there are

module _ (how a b : ℕ) where
  pub places-few : places_of how a b ≤ a + b
  places-few = by-test (keeps_right how) (λ t. rw t (omega arith)) (λ t. rw t (omega arith))

-- ---- what is at a place

module _ (ka kb : List ℕ) (n : ℕ) where
  pub at_is : (pair_at ka kb n).at ≡ n
  at_is = by-test (ltb n (length ka)) (λ t. rw t) (λ t. rw t)
