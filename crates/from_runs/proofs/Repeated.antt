-- `repeat` is `from_runs` of one run.
-- Assumes nothing.
use Prim.Native.Nat.{ℕ}
use Rattle.std.specs.Prelude.{Some, None}
use mathlib.Core.List.{List, [], ◌∷◌}
use mathlib.Core.Path.{◌≡◌, refl, ap}
use native.Mathlib.Nat.{zero-add}
use lib.IntN.{ℤ}
use mir.Syntax.{w64}
use mir.Val.{SFits}
use Rattle.column.specs.Asking.{Question, first_no, ◌otherwise◌}
use Rattle.column.specs.Questions.{agree, not_negative, run_by_run, room, both}
use Rattle.column.specs.Runs.{to_nat}
use Rattle.column.proofs.Naturals.{to_nat-below}
use Rattle.column.proofs.YesNo.{fits-yes}
use Rattle.from_runs.specs.Calls.{runs_from, from_runs_asked, from_runs, repeat}

-- one run always fits
runs-one : (run : ℤ) → SFits w64 run → run_by_run 0 0 (run ∷ []) ≡ not_negative 0 run
unfolding run_by_run
runs-one run f = rw (zero-add (to_nat run), fits-yes (to_nat run) (to_nat-below run f)) (only (not_negative 0 run))
  where
    only : (q : Question) → first_no (q ∷ None ∷ None ∷ []) ≡ q
    only None = refl
    only (Some r) = refl

pub repeat-one : (value run : ℤ) (buffers : List ℕ) → SFits w64 run → from_runs (run ∷ []) (value ∷ []) buffers ≡ repeat value run buffers
unfolding from_runs from_runs_asked repeat agree
repeat-one value run buffers f =
    ap (λ (q : Question). first_no (q ∷ room (both 1) buffers ∷ []) otherwise runs_from 0 (run ∷ []) (value ∷ [])) (runs-one run f)
