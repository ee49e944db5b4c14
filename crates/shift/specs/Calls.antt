-- transform.rs: a sequence moved by a distance.
use Rattle.std.specs.Prelude.{ℕ, suc, ◌+◌, ◌-◌, min, List, ◌++◌, ℤ, pos, negsuc, length, take, drop, replicate}
use Rattle.column.specs.Asking.{◌otherwise◌}
use Rattle.column.specs.Paper.{Outcome}
use Rattle.column.specs.Questions.{sequence_asked}
use Rattle.column.specs.Runs.{Sequence, Runs, runs, dense, encode}

-- "moves towards higher positions when positive": the fill stands where no value was moved to
unfoldable pub shift_values : ℤ → ℤ → List ℤ → List ℤ
shift_values (pos n) fill xs = replicate (min n (length xs)) fill ++ take (length xs - n) xs
shift_values (negsuc n) fill xs = drop (suc n) xs ++ replicate (min (suc n) (length xs)) fill

-- "always merged, n + 1 entries"
unfoldable pub shift : Sequence → ℤ → ℤ → List ℕ → Outcome Runs
shift s distance fill buffers = sequence_asked s (length s.ends + 1) buffers otherwise encode (shift_values distance fill (dense (runs s)))
