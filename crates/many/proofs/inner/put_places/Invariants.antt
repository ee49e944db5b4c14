use mathlib.Core.Path.{◌≡◌}
use lib.Seq.{paste}
use Rattle.many.proofs.inner.put_places.Given as goal

abbrev pub invariant-loop-c : goal.invariant-loop-c
invariant-loop-c l = l.out ≡ paste l.initial.out l.at l.places l.c
