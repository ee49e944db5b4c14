use native.Mathlib.Omega.{arith}
use Rattle.slice.proofs.Touching.{clamped-told}
use Rattle.getitems.proofs.Until.{count_none, count-last}
use borrow.Author.Rules.{rules}
use Rattle.getitems.proofs.inner.count_at.Goals as goal

pub returns-then-to-from : goal.returns-then-to-from
returns-then-to-from c v e d = count_none (clamped-told c.clamped-interval.ensures c.ranges.start c.ranges.stop (search rules) (search rules)) v c.if-to-from.true

pub returns-then-last-first : goal.returns-then-last-first
returns-then-last-first c v e d =
    let k = count-last (clamped-told c.clamped-interval.ensures c.ranges.start c.ranges.stop (search rules) (search rules)) v c.if-to-from.false e d in
    omega (arith, k)

pub returns : goal.returns
returns c v e d =
    let k = count-last (clamped-told c.clamped-interval.ensures c.ranges.start c.ranges.stop (search rules) (search rules)) v c.if-to-from.false e d in
    omega (arith, k)
