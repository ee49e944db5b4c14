use Prim.Native.Nat.{ℕ, ◌+◌, ◌<◌}
use mathlib.Core.Path.{◌≡◌}
use lib.IntN.{pos}
use lib.ListN.{get_or}
use Rattle.getitems.specs.Workers.{block_size, sought, Halvings}
use Rattle.getitems.proofs.inner.searches.search.Given as goal

abbrev pub invariant-loop-size : goal.invariant-loop-size
invariant-loop-size l = Halvings l.ends l.places l.block l.size × ((d : ℕ) → d < block_size → get_or l.places d 0 ≡ sought l.ends l.back (get_or l.positions (l.from + d) (pos 0)))

abbrev pub decreases-loop-size : goal.decreases-loop-size
decreases-loop-size l = l.size
