use Rattle.dense.specs.Workers.{Encoded}
use Rattle.dense.proofs.inner.push_values.Given as goal

abbrev pub invariant-loop-i : goal.invariant-loop-i
invariant-loop-i l = Encoded l.values l.initial.out_ends l.out_ends l.initial.out_values l.out_values l.next l.i
