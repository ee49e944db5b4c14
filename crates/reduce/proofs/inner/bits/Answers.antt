use Rattle.reduce.proofs.Intervals.{finite_no_nan}
use Rattle.reduce.proofs.inner.bits.Goals as goal

pub float_to_bits-result : goal.float_to_bits-result
float_to_bits-result c = finite_no_nan _ (rw c.in-Fraction.is at c.requires).1
