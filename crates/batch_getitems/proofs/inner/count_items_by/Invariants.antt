use mathlib.Core.Path.{◌≡◌}
use lib.ListN.{length}
use Rattle.batch_keys.specs.Workers.{Kept}
use Rattle.batch.specs.Batch.{batch, entries}
use Rattle.batch_intervals.specs.Calls.{item_runs}
use Rattle.batch_getitems.proofs.Keyed.{Counting}
use Rattle.batch_getitems.proofs.inner.count_items_by.Given as goal

abbrev pub invariant-loop-i : goal.invariant-loop-i
invariant-loop-i l =
    Counting (item_runs l.get_keys l.starts l.stops (entries (batch l.keys l.offsets l.ends l.values))) l.total l.i
    × Kept l.keys l.get_keys l.indexed l.block l.i × (length l.block ≡ length l.initial.block)
