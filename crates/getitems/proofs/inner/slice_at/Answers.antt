use Rattle.getitems.proofs.Until.{slice_none, until_start, until_fits, until-next, until_end}
use borrow.Author.Rules.{rules}
use Rattle.getitems.proofs.inner.slice_at.Goals as goal

pub returns-then-to-from : goal.returns-then-to-from
returns-then-to-from c = slice_none c.requires c.ranges.start c.ranges.stop c.clamped-interval.ensures (search rules) (search rules) c.if-to-from.true

pub loop-first-init : goal.loop-first-init
loop-first-init c = until_start c.requires c.ranges.start c.ranges.stop c.clamped-interval.ensures (search rules) (search rules) c.if-to-from.false

pub overflow_sub-out_ends : goal.overflow_sub-out_ends
overflow_sub-out_ends c =
    until_fits c.requires c.ranges.start c.ranges.stop c.clamped-interval.ensures (search rules) (search rules) c.if-to-from.false c.loop-first.invariant (search rules)
    c.smaller.ensures c.smaller.type_inv

pub returns-then-to-end : goal.returns-then-to-end
returns-then-to-end c =
    until_end c.requires c.ranges.start c.ranges.stop c.clamped-interval.ensures (search rules) (search rules) c.if-to-from.false c.loop-first.invariant (search rules)
    c.smaller.ensures c.smaller.type_inv (search rules) c.if-to-end.true

pub loop-first-preserved : goal.loop-first-preserved
loop-first-preserved c =
    until-next c.requires c.ranges.start c.ranges.stop c.clamped-interval.ensures (search rules) (search rules) c.if-to-from.false c.loop-first.invariant (search rules)
    c.smaller.ensures c.smaller.type_inv (search rules) c.if-to-end.false
