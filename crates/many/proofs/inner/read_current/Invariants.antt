use Rattle.many.specs.Workers.{Kept}
use Rattle.many.proofs.inner.read_current.Given as goal

abbrev pub invariant-loop-c : goal.invariant-loop-c
invariant-loop-c l = Kept l.offsets l.ends l.values l.fill l.places l.current l.shown l.c
