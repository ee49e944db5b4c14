use Rattle.transform.proofs.Joining.{Joining}
use Rattle.transform.proofs.inner.concat.Given as goal

abbrev pub invariant-loop-k : goal.invariant-loop-k
invariant-loop-k l = Joining l.offsets l.ends l.values l.initial.out_ends l.initial.out_values l.out_ends l.out_values l.writer l.offset l.k
