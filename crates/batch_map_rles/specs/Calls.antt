-- batch.rs: what is done to the sequence of each key.
use Rattle.std.specs.Prelude.{ℕ, ◌+◌, List, [], ◌∷◌, map, ℤ, length}
use Rattle.column.specs.Asking.{Question, first_no, ◌otherwise◌}
use Rattle.column.specs.Paper.{Outcome}
use Rattle.column.specs.Questions.{room}
use Rattle.column.specs.Runs.{Runs, dense, encode}
use Rattle.slice.specs.Calls.{slice_runs}
use Rattle.shift.specs.Calls.{shift_values}
use Rattle.transform.specs.Calls.{reverse_runs}
use Rattle.batch.specs.Batch.{Batch, Entry, entries, batch_valid, batch_needs}

-- the same keys, each with its new sequence
abbrev pub on_each : (Runs → Runs) → List Entry → List Entry
on_each f es = map (λ (e : Entry). record { key = e.key; runs = f e.runs }) es

-- what a call asks that makes a batch of the same keys, with so many runs at most
unfoldable pub each_asked : Batch → ℕ → List ℕ → Question
each_asked b runs buffers = first_no (batch_valid b ∷ room (batch_needs (length b.keys) runs) buffers ∷ [])

-- "moves towards higher positions when positive, always merged"
unfoldable pub shift_runs : ℤ → ℤ → Runs → Runs
shift_runs distance fill rs = encode (shift_values distance fill (dense rs))

-- "`shift` needs one run more for each key"
unfoldable pub shift : Batch → ℤ → ℤ → List ℕ → Outcome (List Entry)
shift b distance fill buffers =
    each_asked b (length b.flat.ends + length b.keys) buffers otherwise on_each (shift_runs distance fill) (entries b)

-- each sequence reversed
unfoldable pub reversed : Batch → List ℕ → Outcome (List Entry)
reversed b buffers = each_asked b (length b.flat.ends) buffers otherwise on_each reverse_runs (entries b)

-- "a slice of every key through `map_rles`", of a key too that then shows nothing
unfoldable pub map_rles_slice : Batch → ℤ → ℤ → List ℕ → Outcome (List Entry)
map_rles_slice b start end buffers = each_asked b (length b.flat.ends) buffers otherwise on_each (slice_runs start end) (entries b)
