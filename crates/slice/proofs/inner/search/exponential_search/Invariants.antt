use Rattle.std.proofs.Common.{◌-◌, ◌<◌, length}
use Rattle.slice.proofs.inner.search.exponential_search.Given as goal

abbrev pub invariant-loop-size : goal.invariant-loop-size
invariant-loop-size l = 0 < l.size

abbrev pub decreases-loop-size : goal.decreases-loop-size
decreases-loop-size l = length l.ends - l.size
