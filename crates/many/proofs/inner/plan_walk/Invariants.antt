use lib.IntN.{pos}
use lib.ListN.{length}
use Rattle.plan.proofs.Segments.{left}
use Rattle.many.specs.Workers.{places_of, Kept}
use Rattle.many.proofs.Planning.{Planning}
use Rattle.many.proofs.inner.plan_walk.Given as goal

abbrev pub invariant-loop-end : goal.invariant-loop-end
invariant-loop-end l =
    Planning l.offsets l.ends l.initial.out_ends l.initial.out_idx l.places l.out_ends l.out_idx l.n l.m l.end
    × Kept l.offsets l.ends l.values (pos 0) l.places l.current l.shown (length l.places)

abbrev pub decreases-loop-end : goal.decreases-loop-end
decreases-loop-end l = left (places_of l.offsets l.ends l.places)
