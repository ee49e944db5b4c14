use Rattle.num.proofs.Bits.{bits-eq_z, bits_ne_z}
use Rattle.num.proofs.equal.Goals as goal

pub returns-then-x-y : goal.returns-then-x-y
returns-then-x-y c = let f = c.ranges in rw (bits-eq_z f.x f.y c.if-x-y.true)

pub returns-else-x-y : goal.returns-else-x-y
returns-else-x-y c = let f = c.ranges in rw (bits_ne_z f.x f.y c.if-x-y.false)
