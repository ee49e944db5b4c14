use borrow.Author.Rules.{rules}
use Rattle.reduce.proofs.Walking.{square_fits, square-held, square_next}
use Rattle.reduce.proofs.inner.squares.Goals as goal

pub overflow_sub-end : goal.overflow_sub-end
overflow_sub-end c = square_fits c.ranges.start c.loop-i.invariant c.requires.1 c.loop-i-test.true (search rules)

pub add_square-total-requires : goal.add_square-total-requires
add_square-total-requires c = square-held c.ranges.start c.loop-i.invariant c.requires.1 c.loop-i-test.true (search rules)

pub loop-i-preserved : goal.loop-i-preserved
loop-i-preserved c =
    square_next c.ranges.start c.loop-i.invariant c.requires.1 c.loop-i-test.true (search rules) (search rules) c.add_square-total.ensures
