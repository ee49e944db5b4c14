use Rattle.batch_keys.proofs.Ascending.{Risen}
use Rattle.batch_keys.proofs.ascends.Given as goal

abbrev pub invariant-loop-i : goal.invariant-loop-i
invariant-loop-i l = Risen l.keys l.i
