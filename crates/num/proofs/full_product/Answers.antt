use Rattle.std.proofs.Common.{arith, rules}
use Rattle.num.proofs.Halves.{by_halves, half_products}
use Rattle.num.proofs.full_product.Goals as goal

pub overflow_mul-low : goal.overflow_mul-low
overflow_mul-low c = let h = half_products c.ranges.a c.ranges.b in search rules

pub overflow_mul-left : goal.overflow_mul-left
overflow_mul-left c = let h = half_products c.ranges.a c.ranges.b in search rules

pub overflow_add-left : goal.overflow_add-left
overflow_add-left c = let h = half_products c.ranges.a c.ranges.b in search rules

pub overflow_mul-right : goal.overflow_mul-right
overflow_mul-right c = let h = half_products c.ranges.a c.ranges.b in search rules

pub overflow_add-right : goal.overflow_add-right
overflow_add-right c = let h = half_products c.ranges.a c.ranges.b in search rules

pub overflow_mul-result : goal.overflow_mul-result
overflow_mul-result c = let h = half_products c.ranges.a c.ranges.b in search rules

pub overflow_add-result : goal.overflow_add-result
overflow_add-result c = let h = half_products c.ranges.a c.ranges.b in search rules

pub overflow_add-result-2 : goal.overflow_add-result-2
overflow_add-result-2 c = let h = half_products c.ranges.a c.ranges.b in search rules

pub returns : goal.returns
returns c = omega (arith, by_halves c.args.a c.args.b)
