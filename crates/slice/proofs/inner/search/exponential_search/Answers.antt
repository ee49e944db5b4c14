use Rattle.std.proofs.Common.{arith, rules}
use Rattle.slice.proofs.Searching.{least-front}
use Rattle.slice.proofs.inner.search.exponential_search.Goals as goal

pub returns-then-position-end : goal.returns-then-position-end
returns-then-position-end c =
    least-front c.args.ends.now c.loop-size.size c.ranges.position (search rules) c.loop-size.invariant (omega arith) c.if-position-end.true c.first_end_at_least.ensures
