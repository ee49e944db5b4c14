use Rattle.std.proofs.Common.{◌≡◌, ◌-◌, ◌^◌, sym, arith}
use Rattle.num.proofs.Wrap.{signed-bits}
use Rattle.num.proofs.as_signed.Goals as goal

pub returns-else-bits-lt9223372036854775808 : goal.returns-else-bits-lt9223372036854775808
returns-else-bits-lt9223372036854775808 c =
    let b = c.args.bits in
    let e : 2 ^ 64 - 1 - (2 ^ 64 - 1 - b) ≡ b = omega arith in
    rw e (sym (signed-bits b))
