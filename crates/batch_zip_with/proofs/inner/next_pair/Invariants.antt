use mathlib.Core.Path.{◌≡◌}
use lib.ListN.{length}
use Rattle.batch.specs.Workers.{KeptOther}
use Rattle.batch.proofs.Places.{Passing}
use Rattle.batch_zip_with.specs.Workers.{places_of, pair_kept}
use Rattle.batch_zip_with.proofs.inner.next_pair.Given as goal

abbrev pub invariant-loop-at : goal.invariant-loop-at
invariant-loop-at l =
    Passing (pair_kept l.how l.a_keys l.b_keys) (places_of l.how (length l.a_keys) (length l.b_keys)) l.from l.at
    × KeptOther l.a_keys l.b_keys l.lookup.indexed l.block l.at × (length l.block ≡ length l.initial.block)
