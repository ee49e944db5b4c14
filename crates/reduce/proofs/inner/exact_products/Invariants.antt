use Rattle.column.specs.Runs.{to_nat}
use Rattle.reduce.specs.Workers.{ExactProducts}
use Rattle.reduce.proofs.inner.exact_products.Given as goal

abbrev pub invariant-loop-i : goal.invariant-loop-i
invariant-loop-i l = ExactProducts (to_nat l.start) l.ends l.values l.i l.before l.total
