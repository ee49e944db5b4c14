use Prim.Native.Nat.{ℕ, ◌<◌}
use mathlib.Core.List.{List}
use lib.ListN.{length}
use Rattle.merge_mask.specs.Workers.{Tells}
use Rattle.merge_mask.proofs.Writing.{Merged}
use Rattle.merge_mask.proofs.inner.merge_groups.Given as goal

abbrev pub invariant-loop-run : goal.invariant-loop-run
invariant-loop-run g l = record {
  few : l.writer.at < l.run;
  kept : l.writer.kept < l.run;
  merged : (mask : List ℕ) → Tells (goal.F-post g l.joins) mask (length l.ends)
      → Merged l.keep mask l.ends l.values l.initial.out_ends l.initial.out_values l.out_ends l.out_values l.writer l.run;
}
