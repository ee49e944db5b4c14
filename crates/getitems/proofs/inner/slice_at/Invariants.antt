use Prim.Native.Nat.{◌-◌}
use lib.ListN.{length}
use Rattle.slice.specs.Workers.{touched_by}
use Rattle.getitems.proofs.Until.{Until}
use Rattle.getitems.proofs.inner.slice_at.Given as goal

abbrev pub invariant-loop-first : goal.invariant-loop-first
invariant-loop-first l = Until (record {
  first = l.first;
  count = (touched_by l.fn.start l.fn.stop l.ends).count;
  start = l.from;
  end = l.to;
}) l.ends l.values l.initial.out_ends l.out_ends l.initial.out_values l.out_values l.n

abbrev pub decreases-loop-first : goal.decreases-loop-first
decreases-loop-first l = length l.ends - l.n
