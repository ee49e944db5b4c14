use Prim.Native.Nat.{◌+◌}
use mathlib.Core.Path.{◌≡◌}
use lib.ListN.{length}
use Rattle.batch.specs.Workers.{KeptOther}
use Rattle.batch.proofs.Places.{Passing}
use Rattle.batch_concat.specs.Workers.{key_kept}
use Rattle.batch_concat.proofs.inner.next_key.Given as goal

abbrev pub invariant-loop-at : goal.invariant-loop-at
invariant-loop-at l =
    Passing (key_kept l.a_keys l.b_keys) (length l.a_keys + length l.b_keys) l.from l.at × KeptOther l.a_keys l.b_keys l.lookup.indexed l.block l.at
    × (length l.block ≡ length l.initial.block)
