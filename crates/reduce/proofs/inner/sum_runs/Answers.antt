use borrow.Author.Rules.{rules}
use Rattle.reduce.proofs.Walking.{past-fits, past-held, sum_next}
use Rattle.reduce.proofs.inner.sum_runs.Goals as goal

pub overflow_sub-end : goal.overflow_sub-end
overflow_sub-end c = past-fits c.loop-i.invariant (search rules) c.if-end-before.false

pub add_weight-total-requires : goal.add_weight-total-requires
add_weight-total-requires c = past-held c.loop-i.invariant (search rules) c.if-end-before.false

pub loop-i-preserved : goal.loop-i-preserved
loop-i-preserved c =
    sum_next c.loop-i.invariant c.requires.0 (search rules) c.if-end-before.false c.loop-i-test.true (search rules) c.add_weight-total.type_inv
    c.add_weight-total.ensures
