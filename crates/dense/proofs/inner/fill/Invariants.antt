use mathlib.Core.Path.{◌≡◌}
use Rattle.column.proofs.Buffer.{stretched}
use Rattle.dense.proofs.inner.fill.Given as goal

abbrev pub invariant-loop-p : goal.invariant-loop-p
invariant-loop-p l = l.out ≡ stretched l.initial.out l.from l.p l.value
