use mathlib.Core.List.{map}
use mathlib.Core.Path.{◌≡◌}
use lib.ListN.{length}
use Rattle.batch_keys.specs.Workers.{Kept}
use Rattle.reduce.specs.Calls.{reduction}
use Rattle.reduce.proofs.Intervals.{Filling}
use Rattle.batch.specs.Batch.{batch, entries}
use Rattle.batch_intervals.specs.Calls.{item_runs}
use Rattle.batch_slice_reduce.proofs.inner.slice_reduce_by.Given as goal

abbrev pub invariant-loop-i : goal.invariant-loop-i
invariant-loop-i l =
    Filling (map (reduction l.code l.ddof) (item_runs l.get_keys l.starts l.stops (entries (batch l.keys l.offsets l.ends l.values))))
    l.initial.out_kinds l.out_kinds l.initial.out_bits l.out_bits l.i
    × Kept l.keys l.get_keys l.indexed l.block l.i × (length l.block ≡ length l.initial.block)
