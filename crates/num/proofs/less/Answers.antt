use Rattle.num.proofs.Bits.{told_lt}
use Rattle.num.proofs.less.Goals as goal

pub returns-then-x-y : goal.returns-then-x-y
returns-then-x-y c = let f = c.ranges in rw (told_lt f.x f.y c.if-x-y.true)

pub returns-else-x-y : goal.returns-else-x-y
returns-else-x-y c = let f = c.ranges in rw (told_lt f.x f.y c.if-x-y.false)
