use mathlib.Core.Bool.{false}
use mathlib.Core.Path.{◌≡◌}
use lib.ListN.{take}
use Rattle.column.specs.Lists.{any}
use Rattle.ranges_where.specs.Workers.{passing}
use Rattle.ranges_where.proofs.inner.first_passing.Given as goal

abbrev pub invariant-loop-i : goal.invariant-loop-i
invariant-loop-i l = any (passing l.code l.number) (take l.i l.values) ≡ false
