use mathlib.Core.Path.{refl}
use Rattle.column.proofs.Masks.{ones_next, ones_all}
use Rattle.column.proofs.mask.mask_ones.Goals as goal

pub loop-byte-preserved : goal.loop-byte-preserved
loop-byte-preserved c = ones_next c.loop-byte.invariant c.loop-byte-test.true refl c.count_if_one-count.ensures

pub returns : goal.returns
returns c = ones_all c.loop-byte.invariant c.loop-byte-test.false
