use Rattle.std.proofs.Common.{◌∙◌, to_z-of_z}
use Rattle.num.proofs.Bits.{told_le}
use Rattle.num.proofs.larger.Goals as goal

pub returns-then-x-y : goal.returns-then-x-y
returns-then-x-y c = let f = c.ranges in to_z-of_z f.y ∙ rw (told_le f.x f.y c.if-x-y.true)

pub returns-else-x-y : goal.returns-else-x-y
returns-else-x-y c = let f = c.ranges in to_z-of_z f.x ∙ rw (told_le f.x f.y c.if-x-y.false)
