use Rattle.column.proofs.Masks.{Listed}
use Rattle.column.proofs.mask.first_unlisted.Given as goal

abbrev pub invariant-loop-i : goal.invariant-loop-i
invariant-loop-i l = Listed l.mask l.i
