use borrow.Author.Rules.{rules}
use Rattle.reduce.proofs.Walking.{past, past-fits, past-held, product_next}
use Rattle.reduce.proofs.inner.products.Goals as goal

pub overflow_sub-end : goal.overflow_sub-end
overflow_sub-end c = past-fits c.loop-i.invariant (search rules) c.if-end-before.false

pub add_product-total-requires : goal.add_product-total-requires
add_product-total-requires c = past-held c.loop-i.invariant (search rules) c.if-end-before.false

pub loop-i-preserved : goal.loop-i-preserved
loop-i-preserved c =
    let g = past c.loop-i.invariant (search rules) c.if-end-before.false in
    product_next c.loop-i.invariant c.requires.0 (search rules) g c.loop-i-test.true (search rules) c.add_product-total.ensures
