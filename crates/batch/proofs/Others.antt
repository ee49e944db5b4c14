-- The keys of two batches, each looked up in the other: what a block holds before each place.
-- Assumes nothing.
use Prim.Native.Nat.{ℕ, ◌-◌}
use mathlib.Core.Bool.{true}
use mathlib.Core.List.{List}
use mathlib.Core.Path.{◌≡◌}
use native.Mathlib.Omega.{arith}
use lib.ListN.{length}
use Rattle.batch_keys.specs.Workers.{block_size}
use Rattle.batch_keys.proofs.Blocks.{kept-start}
use Rattle.batch.specs.declared.inner.lookup.Lookup.{Lookup}
use Rattle.batch.specs.Workers.{KnownKeys, KeptOther}

module _ {ka kb : List ℕ} where
  pub other-start : {l : Lookup} {bs : List ℕ} → KnownKeys ka kb l → (l.indexed ≡ true → length bs ≡ block_size) → KeptOther ka kb l.indexed bs 0
  other-start k r =
      record {
        room = r;
        left = λ h. kept-start r (λ t. (k.few t).1);
        right = λ h. let z : 0 - length ka ≡ 0 = omega arith in rw z (kept-start r (λ t. (k.few t).0));
      }
