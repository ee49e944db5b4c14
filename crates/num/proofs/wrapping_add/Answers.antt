use Rattle.num.proofs.Wrap.{told_add}
use Rattle.num.proofs.wrapping_add.Goals as goal

pub returns : goal.returns
returns c =
    let f = c.ranges in
    told_add f.x f.y c.as_unsigned.ensures c.as_unsigned-2.ensures c.as_signed.ensures c.wrapping_add_u64.ensures.value
