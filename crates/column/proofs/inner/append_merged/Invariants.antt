use Rattle.column.proofs.Appending.{Appending}
use Rattle.column.proofs.inner.append_merged.Given as goal

abbrev pub invariant-loop-r : goal.invariant-loop-r
invariant-loop-r l = Appending l.start l.offset l.ends l.values l.initial.out_ends l.initial.out_values l.initial.next l.out_ends l.out_values l.next l.r
