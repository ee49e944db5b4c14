use Rattle.std.proofs.Common.{nat_abs, ap, arith}
use Rattle.num.proofs.Bits.{cast_nat}
use Rattle.num.proofs.Residue.{residue_lt}
use Rattle.num.proofs.Unsigned.{negative_flipped, nonnegative_plain, flipped-back}
use Rattle.num.proofs.as_unsigned.Goals as goal

pub overflow_cast-result : goal.overflow_cast-result
overflow_cast-result c = cast_nat (negative_flipped c.ranges.x c.if-x-lt0.true) (omega arith)

pub overflow_cast-result-else-x-lt0 : goal.overflow_cast-result-else-x-lt0
overflow_cast-result-else-x-lt0 c = cast_nat (nonnegative_plain c.ranges.x c.if-x-lt0.false) (residue_lt c.args.x)

pub returns-then-x-lt0 : goal.returns-then-x-lt0
returns-then-x-lt0 c = flipped-back c.ranges.x c.if-x-lt0.true

pub returns-else-x-lt0 : goal.returns-else-x-lt0
returns-else-x-lt0 c = ap nat_abs (nonnegative_plain c.ranges.x c.if-x-lt0.false)
