use Rattle.transform.proofs.Joining.{Totalling}
use Rattle.transform.proofs.total_length.Given as goal

abbrev pub invariant-loop-k : goal.invariant-loop-k
invariant-loop-k l = Totalling l.offsets l.ends l.total l.k
