-- What the workers leave and require.
use Rattle.std.specs.Prelude.{ℕ, ◌+◌, ◌*◌, ◌≤◌, List, ℤ, length}
use Rattle.column.specs.Asking.{◌otherwise◌}
use Rattle.column.specs.Paper.{Outcome}
use Rattle.column.specs.Runs.{Runs}
use Rattle.slice.specs.Calls.{slice_runs}
use Rattle.transform.specs.Calls.{reverse_runs}
use Rattle.batch.specs.Batch.{Batch, Entry, entries}
use Rattle.batch.specs.Workers.{ValidBatch}
use Rattle.batch_map_rles.specs.Calls.{on_each, each_asked, shift_runs}
use Rattle.batch_map_rles.specs.declared.inner.Mapping.{Mapping}
use Rattle.batch_map_rles.specs.declared.inner.Mapping.TheVariants.{Shift, Reversed, Slice}

-- what is done to the sequence of each key
abbrev pub mapped : Mapping → Runs → Runs
mapped (Shift distance fill) rs = shift_runs distance fill rs
mapped Reversed rs = reverse_runs rs
mapped (Slice start end) rs = slice_runs start end rs

-- so many runs more than the sequence has, at most
abbrev pub more : Mapping → ℕ
more (Shift distance fill) = 1
more Reversed = 0
more (Slice start end) = 0

-- the three calls as one
unfoldable pub map_each : Mapping → Batch → List ℕ → Outcome (List Entry)
map_each m b buffers = each_asked b (length b.flat.ends + more m * length b.keys) buffers otherwise on_each (mapped m) (entries b)

-- a valid batch, and room for its keys and for what is done to them
pub record Mappable (m : Mapping) (b : Batch) (k x : List ℕ) (e v : List ℤ) : Type 0 where
  pub batch : ValidBatch b
  pub room_keys : length b.keys ≤ length k
  pub room_offsets : length b.keys + 1 ≤ length x
  pub room_ends : length b.flat.ends + more m * length b.keys ≤ length e
  pub room_values : length b.flat.ends + more m * length b.keys ≤ length v
