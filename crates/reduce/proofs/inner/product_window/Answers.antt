use lib.Ieee.{of_bits}
use borrow.Author.Rules.{rules}
use Rattle.reduce.proofs.Totals.{body-walkable, last_fits, last-held, products-none, products-short, products-cut, products-last}
use Rattle.reduce.proofs.inner.product_window.Goals as goal

pub returns-then-count-eq0 : goal.returns-then-count-eq0
unfolding of_bits
returns-then-count-eq0 c = products-none c.requires c.if-count-eq0.true

pub products-sum-requires : goal.products-sum-requires
products-sum-requires c = body-walkable _ _ _ c.requires c.if-count-eq0.false (search rules)

pub returns-then-sum-count : goal.returns-then-sum-count
returns-then-sum-count c = products-short _ _ _ c.requires c.if-count-eq0.false (search rules) c.products-sum.ensures c.if-sum-count.true

pub returns-then-end-before : goal.returns-then-end-before
returns-then-end-before c =
    products-cut _ _ _ c.requires c.if-count-eq0.false (search rules) c.products-sum.ensures c.if-sum-count.false
    (search rules) (search rules) c.if-end-before.true

pub overflow_sub-end : goal.overflow_sub-end
overflow_sub-end c =
    last_fits _ _ _ c.requires c.if-count-eq0.false (search rules) c.products-sum.ensures.stopped c.if-sum-count.false
    (search rules) (search rules) c.if-end-before.false

pub add_product-requires : goal.add_product-requires
add_product-requires c =
    last-held _ _ _ c.requires c.if-count-eq0.false (search rules) c.products-sum.ensures.stopped c.if-sum-count.false
    (search rules) (search rules) c.if-end-before.false

pub returns : goal.returns
returns c =
    products-last _ _ _ c.requires c.if-count-eq0.false (search rules) c.products-sum.ensures c.if-sum-count.false
    (search rules) (search rules) c.if-end-before.false (search rules) c.add_product.ensures
