use Rattle.std.proofs.Common.{arith}
use Rattle.num.proofs.Bits.{cast_nat}
use Rattle.num.proofs.Residue.{residue_lt}
use Rattle.num.proofs.Unsigned.{negative_flipped, nonnegative_plain, flipped_above, plain_abs, abs_below}
use Rattle.num.proofs.unsigned_abs.Goals as goal

pub overflow_cast-result : goal.overflow_cast-result
overflow_cast-result c = cast_nat (negative_flipped c.ranges.x c.if-x-lt0.true) (omega arith)

pub overflow_add-result : goal.overflow_add-result
overflow_add-result c = record { fits = omega (arith, flipped_above c.ranges.x c.if-x-lt0.true, abs_below c.ranges.x) }

pub overflow_cast-result-else-x-lt0 : goal.overflow_cast-result-else-x-lt0
overflow_cast-result-else-x-lt0 c = cast_nat (nonnegative_plain c.ranges.x c.if-x-lt0.false) (residue_lt c.args.x)

pub returns-then-x-lt0 : goal.returns-then-x-lt0
returns-then-x-lt0 c = flipped_above c.ranges.x c.if-x-lt0.true

pub returns-else-x-lt0 : goal.returns-else-x-lt0
returns-else-x-lt0 c = plain_abs c.ranges.x c.if-x-lt0.false
