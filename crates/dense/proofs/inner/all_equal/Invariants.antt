use Prim.Native.Nat.{◌-◌, ◌≤◌}
use mathlib.Core.Path.{◌≡◌}
use Rattle.dense.specs.Workers.{Constant}
use Rattle.dense.proofs.inner.all_equal.Given as goal

abbrev pub invariant-loop-i : goal.invariant-loop-i
invariant-loop-i l = (l.count ≤ l.i - l.from) × (l.count ≡ l.i - l.from → Constant l.values l.from l.i l.value)
