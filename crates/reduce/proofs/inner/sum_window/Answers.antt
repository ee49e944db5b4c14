use borrow.Author.Rules.{rules}
use Rattle.reduce.proofs.Totals.{body-walkable, total-none, total-short, total-cut, last_fits, last-held, sum-last}
use Rattle.reduce.proofs.inner.sum_window.Goals as goal

pub returns-then-count-eq0 : goal.returns-then-count-eq0
returns-then-count-eq0 c = total-none _ _ _ c.requires c.if-count-eq0.true tt

pub sum_runs-sum-requires : goal.sum_runs-sum-requires
sum_runs-sum-requires c = body-walkable _ _ _ c.requires c.if-count-eq0.false (search rules)

pub returns-then-sum-count : goal.returns-then-sum-count
returns-then-sum-count c = total-short _ _ _ c.requires c.if-count-eq0.false (search rules) c.sum_runs-sum.ensures c.if-sum-count.true

pub returns-then-end-before : goal.returns-then-end-before
returns-then-end-before c =
    total-cut _ _ _ c.requires c.if-count-eq0.false (search rules) c.sum_runs-sum.ensures c.if-sum-count.false
    (search rules) (search rules) c.if-end-before.true

pub overflow_sub-end : goal.overflow_sub-end
overflow_sub-end c =
    last_fits _ _ _ c.requires c.if-count-eq0.false (search rules) c.sum_runs-sum.ensures c.if-sum-count.false
    (search rules) (search rules) c.if-end-before.false

pub add_weight-requires : goal.add_weight-requires
add_weight-requires c =
    last-held _ _ _ c.requires c.if-count-eq0.false (search rules) c.sum_runs-sum.ensures c.if-sum-count.false
    (search rules) (search rules) c.if-end-before.false

pub returns : goal.returns
returns c =
    sum-last _ _ _ c.requires c.if-count-eq0.false (search rules) c.sum_runs-sum.ensures c.if-sum-count.false
    (search rules) (search rules) c.if-end-before.false (search rules) (search rules) c.add_weight.type_inv c.add_weight.ensures
