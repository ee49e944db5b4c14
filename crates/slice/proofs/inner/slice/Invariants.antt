use Rattle.slice.proofs.Slicing.{Slicing}
use Rattle.slice.proofs.inner.slice.Given as goal

abbrev pub invariant-loop-n : goal.invariant-loop-n
invariant-loop-n l = Slicing l.fn.touched l.ends l.values l.initial.out_ends l.out_ends l.initial.out_values l.out_values l.n
