use Rattle.std.proofs.Common.{rules}
use Rattle.num.proofs.Saturated.{saturated-low, saturated_high}
use Rattle.num.proofs.saturating_mul.Goals as goal

pub returns-then-product-eq0 : goal.returns-then-product-eq0
returns-then-product-eq0 c = let p = c.full_product-product in saturated-low p.result.high p.result.low p.ensures c.if-product-eq0.true (search rules)

pub returns-else-product-eq0 : goal.returns-else-product-eq0
returns-else-product-eq0 c = let p = c.full_product-product in saturated_high p.result.high p.result.low p.ensures c.if-product-eq0.false
