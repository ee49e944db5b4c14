use Rattle.std.proofs.Common.{rules}
use Rattle.column.proofs.Rest.{rest-lent}
use Rattle.slice.proofs.Touching.{clamped-told, rest-valid, touched_none, touched_some}
use Rattle.slice.proofs.inner.search.touched.Goals as goal

pub returns-then-to-from : goal.returns-then-to-from
returns-then-to-from c v =
    let interval = clamped-told c.clamped-interval.ensures c.ranges.start c.ranges.end (search rules) (search rules) in
    touched_none interval v c.if-to-from.true

pub returns : goal.returns
returns c v =
    let interval = clamped-told c.clamped-interval.ensures c.ranges.start c.ranges.end (search rules) (search rules) in
    let es = c.args.ends.now in
    let r = rest-lent c.first_end_above-first.result es in
    let last = c.exponential_search-count.ensures.1 (rw r (rest-valid c.first_end_above-first.result es v)) in
    touched_some interval v c.if-to-from.false (c.first_end_above-first.ensures.1 v) (rw r at last)
