use borrow.Author.Rules.{rules}
use Rattle.reduce.proofs.Reducing.{sum_reduced, none_reduced, span-natural, reduced-mean, variable, reduced-variance}
use Rattle.reduce.proofs.inner.reduce_window.Goals as goal

pub returns-then-code-eq0 : goal.returns-then-code-eq0
returns-then-code-eq0 c =
    let s = sum_reduced _ _ _ c.requires c.args.ddof c.if-code-eq0.true c.sum_window-sum.ensures in
    search (rules, s)

pub returns-then-count-eq0 : goal.returns-then-count-eq0
returns-then-count-eq0 c = none_reduced _ _ _ c.requires _ c.if-code-eq0.false c.if-count-eq0.true

pub returns-then-code-eq1 : goal.returns-then-code-eq1
returns-then-code-eq1 c =
    reduced-mean _ _ _ c.requires c.if-count-eq0.false (search rules) (search rules) c.product_window-products.ensures
    c.if-products-count.false c.to_f64.ensures _ c.if-code-eq1.true

pub divisor-by-requires : goal.divisor-by-requires
divisor-by-requires c =
    span-natural _ _ _ c.requires c.if-count-eq0.false (search rules) (search rules) c.product_window-products.ensures
    c.if-products-count.false

pub variance-requires : goal.variance-requires
variance-requires c =
    variable _ _ _ c.requires c.if-count-eq0.false (search rules) (search rules) c.product_window-products.ensures
    c.if-products-count.false c.to_f64.ensures c.ranges.ddof c.divisor-by.type_inv c.divisor-by.ensures

pub returns : goal.returns
returns c =
    reduced-variance _ _ _ c.requires c.if-count-eq0.false (search rules) (search rules) c.product_window-products.ensures
    c.if-products-count.false c.to_f64.ensures c.ranges.ddof c.divisor-by.type_inv c.divisor-by.ensures
    c.if-code-eq0.false c.if-code-eq1.false c.variance.ensures
