use Prim.Native.Nat.{◌-◌}
use lib.ListN.{length}
use Rattle.batch_index.specs.Workers.{Skipped}
use Rattle.batch_index.proofs.inner.skip_others.Given as goal

abbrev pub invariant-loop-i : goal.invariant-loop-i
invariant-loop-i l = Skipped l.key l.keys l.from l.i

abbrev pub decreases-loop-i : goal.decreases-loop-i
decreases-loop-i l = length l.keys - l.i
