use Rattle.column.proofs.Masks.{Ones}
use Rattle.column.proofs.mask.mask_ones.Given as goal

abbrev pub invariant-loop-byte : goal.invariant-loop-byte
invariant-loop-byte l = Ones l.mask l.count l.byte-index
