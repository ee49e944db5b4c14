use Rattle.column.proofs.Masks.{listed_next, listed-not, listed-all}
use Rattle.column.proofs.mask.first_unlisted.Goals as goal

pub returns-then-byte-gt1 : goal.returns-then-byte-gt1
returns-then-byte-gt1 c = listed-not c.loop-i.invariant c.loop-i-test.true c.if-byte-gt1.true

pub loop-i-preserved : goal.loop-i-preserved
loop-i-preserved c = listed_next c.loop-i.invariant c.loop-i-test.true c.if-byte-gt1.false

pub returns : goal.returns
returns c = listed-all c.loop-i.invariant c.loop-i-test.false
