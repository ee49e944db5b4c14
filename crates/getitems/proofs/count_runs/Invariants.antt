use Rattle.getitems.specs.Workers.{Kept}
use Rattle.getitems.proofs.Items.{Counting}
use Rattle.getitems.proofs.count_runs.Given as goal

abbrev pub invariant-loop-i : goal.invariant-loop-i
invariant-loop-i l = Counting l.starts l.stops l.ends l.total l.i × Kept l.ends l.starts 0 l.firsts l.i × Kept l.ends l.stops 1 l.lasts l.i
