use Rattle.column.specs.Runs.{to_nat}
use Rattle.reduce.specs.Workers.{WalkedSum}
use Rattle.reduce.proofs.inner.sum_runs.Given as goal

abbrev pub invariant-loop-i : goal.invariant-loop-i
invariant-loop-i l = WalkedSum (to_nat l.start) l.ends l.values l.i l.before l.total
