use Rattle.column.specs.Runs.{runs_of}
use Rattle.getitems.specs.Calls.{interval_runs}
use Rattle.getitems.specs.Workers.{Kept}
use Rattle.getitems.proofs.Placing.{Placing}
use Rattle.getitems.proofs.inner.getitems.Given as goal

abbrev pub invariant-loop-i : goal.invariant-loop-i
invariant-loop-i l = record {
  placing : Placing (interval_runs l.starts l.stops (runs_of l.ends l.values)) l.fn.out_offsets l.out_offsets l.initial.out_ends l.out_ends
      l.initial.out_values l.out_values l.used l.i;
  kept : Kept l.ends l.starts 0 l.firsts l.i;
}
