use Rattle.num.proofs.Wrap.{told-sub}
use Rattle.num.proofs.wrapping_sub.Goals as goal

pub returns : goal.returns
returns c =
    let f = c.ranges in
    told-sub f.x f.y c.as_unsigned.ensures c.as_unsigned-2.ensures c.as_signed.ensures c.wrapping_sub_u64.type_inv
    c.wrapping_sub_u64.ensures.value
