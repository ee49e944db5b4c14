use mathlib.Core.Path.{◌≡◌}
use lib.ListN.{drop}
use Rattle.num.specs.Numbers.{operation}
use Rattle.column.specs.Combine.{fold_from, folded}
use Rattle.zip_many.proofs.inner.fold_by.Given as goal

abbrev pub invariant-loop-c : goal.invariant-loop-c
invariant-loop-c l = folded (operation l.code) l.shown ≡ fold_from (operation l.code) l.value (drop l.c l.shown)
