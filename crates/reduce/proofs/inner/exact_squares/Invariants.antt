use Rattle.column.specs.Runs.{to_nat}
use Rattle.reduce.specs.Workers.{WalkedSquares}
use Rattle.reduce.proofs.inner.exact_squares.Given as goal

abbrev pub invariant-loop-i : goal.invariant-loop-i
invariant-loop-i l = WalkedSquares l.mean (to_nat l.start) l.ends l.values l.i l.before l.total
