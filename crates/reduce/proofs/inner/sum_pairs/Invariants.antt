use Prim.Native.Nat.{◌*◌}
use Rattle.column.specs.Runs.{to_nat}
use Rattle.reduce.specs.Workers.{WalkedSum}
use Rattle.reduce.proofs.inner.sum_pairs.Given as goal

abbrev pub invariant-loop-pair : goal.invariant-loop-pair
invariant-loop-pair l = WalkedSum (to_nat l.start) l.ends l.values (2 * l.pair) l.before l.total
