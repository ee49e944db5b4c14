-- rle.rs: sequences made from runs, from ends, and of one value.
use Rattle.std.specs.Prelude.{ℕ, ◌+◌, cond, List, [], ◌∷◌, ℤ, length, eqb}
use Rattle.column.specs.Asking.{Question, first_no, ◌otherwise◌}
use Rattle.column.specs.Paper.{Outcome}
use Rattle.column.specs.Questions.{agree, paired, ends_valid, not_negative, run_by_run, room, both}
use Rattle.column.specs.Runs.{Sequence, Runs, to_nat}

-- the runs from position p on, for given lengths: "skips runs of 0"
unfoldable pub runs_from : ℕ → List ℤ → List ℤ → Runs
runs_from p [] vs = []
runs_from p (n ∷ ns) [] = []
runs_from p (n ∷ ns) (v ∷ vs) =
    let end = p + to_nat n in
    cond (eqb (to_nat n) 0) (runs_from p ns vs) (record { end = end; value = v } ∷ runs_from end ns vs)

-- "Output entries: as many as runs given"
unfoldable pub from_runs_asked : List ℤ → List ℤ → List ℕ → Question
from_runs_asked given values buffers =
    first_no (agree 1 (length given) (length values) ∷ run_by_run 0 0 given ∷ room (both (length given)) buffers ∷ [])

unfoldable pub from_runs : List ℤ → List ℤ → List ℕ → Outcome Runs
from_runs given values buffers = from_runs_asked given values buffers otherwise runs_from 0 given values

-- "only checks, writes nothing"
unfoldable pub from_ends : Sequence → Outcome (Unit {0})
from_ends s = first_no (paired s ∷ ends_valid s.ends ∷ []) otherwise tt

-- one run, of the length given
unfoldable pub repeat : ℤ → ℤ → List ℕ → Outcome Runs
repeat value run buffers =
    first_no (not_negative 0 run ∷ room (both 1) buffers ∷ [])
    otherwise runs_from 0 (run ∷ []) (value ∷ [])
