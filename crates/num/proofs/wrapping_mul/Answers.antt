use Rattle.std.proofs.Common.{rules}
use Rattle.num.proofs.Wrap.{told-mul}
use Rattle.num.proofs.wrapping_mul.Goals as goal

pub returns : goal.returns
returns c =
    let f = c.ranges in
    let halves = c.full_product-product in
    told-mul f.x f.y c.as_unsigned.ensures c.as_unsigned-2.ensures c.as_signed.ensures halves.result.high (search rules)
    halves.ensures
