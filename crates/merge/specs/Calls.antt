-- merge.rs: neighbouring runs of one value made one.
use Rattle.std.specs.Prelude.{ℕ, List, length}
use Rattle.column.specs.Asking.{◌otherwise◌}
use Rattle.column.specs.Paper.{Outcome}
use Rattle.column.specs.Questions.{sequence_asked}
use Rattle.column.specs.Runs.{Sequence, Runs, runs, dense, encode}

-- "merged when neighbouring values differ"; "n entries"
unfoldable pub merged : Sequence → List ℕ → Outcome Runs
merged s buffers = sequence_asked s (length s.ends) buffers otherwise encode (dense (runs s))
