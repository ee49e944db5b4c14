use lib.ListN.{length}
use Rattle.num.specs.Numbers.{operation}
use Rattle.plan.proofs.Segments.{left}
use Rattle.many.specs.Workers.{places_of, Kept}
use Rattle.zip_many.proofs.Zips.{Zipped}
use Rattle.zip_many.proofs.inner.zip_walk.Given as goal

abbrev pub invariant-loop-end : goal.invariant-loop-end
invariant-loop-end l =
    Zipped (operation l.code) l.fill l.offsets l.ends l.values l.initial.out_ends l.initial.out_values l.places l.out_ends l.out_values l.writer l.end
    × Kept l.offsets l.ends l.values l.fill l.places l.current l.shown (length l.places)

abbrev pub decreases-loop-end : goal.decreases-loop-end
decreases-loop-end l = left (places_of l.offsets l.ends l.places)
