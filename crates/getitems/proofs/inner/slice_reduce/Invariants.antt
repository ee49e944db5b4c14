use Rattle.column.specs.Runs.{runs_of}
use Rattle.getitems.proofs.Reductions.{reductions}
use Rattle.reduce.proofs.Intervals.{Filling}
use Rattle.getitems.proofs.inner.slice_reduce.Given as goal

abbrev pub invariant-loop-i : goal.invariant-loop-i
invariant-loop-i l = Filling (reductions l.code l.ddof l.starts l.stops (runs_of l.ends l.values)) l.initial.out_kinds l.out_kinds l.initial.out_bits l.out_bits l.i
