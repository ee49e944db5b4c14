-- rle.rs: sequences made from values, and the values that they show.
use Rattle.std.specs.Prelude.{ℕ, List, [], ◌∷◌, ℤ, length}
use Rattle.column.specs.Asking.{Question, first_no, ◌otherwise◌}
use Rattle.column.specs.Paper.{Outcome}
use Rattle.column.specs.Questions.{paired, ends_valid, room, both}
use Rattle.column.specs.Runs.{Sequence, Runs, runs, length_of, dense, encode}

-- "for `from_dense` as many as values given"
unfoldable pub from_dense : List ℤ → List ℕ → Outcome Runs
from_dense values buffers = room (both (length values)) buffers otherwise encode values

-- "for dense output, the length"
unfoldable pub to_dense_asked : Sequence → List ℕ → Question
to_dense_asked s buffers = first_no (paired s ∷ ends_valid s.ends ∷ room (length_of (runs s) ∷ []) buffers ∷ [])

unfoldable pub to_dense : Sequence → List ℕ → Outcome (List ℤ)
to_dense s buffers = to_dense_asked s buffers otherwise dense (runs s)
