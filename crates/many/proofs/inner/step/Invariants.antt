use lib.ListN.{length}
use Rattle.many.specs.Workers.{Kept}
use Rattle.many.proofs.Stepping.{Stepping}
use Rattle.many.proofs.inner.step.Given as goal

abbrev pub invariant-loop-c : goal.invariant-loop-c
invariant-loop-c l = Stepping l.offsets l.ends l.start l.initial.places l.places l.least l.c × Kept l.offsets l.ends l.values l.fill l.places l.current l.shown (length l.places)
