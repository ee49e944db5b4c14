-- Worked examples of `from_runs` and `repeat`, computed from their definitions.
-- Assumes nothing.
use Prim.Native.Nat.{◌-◌, ◌^◌}
use Rattle.std.specs.Prelude.{None}
use mathlib.Core.List.{List, [], ◌∷◌}
use mathlib.Core.Path.{refl}
use lib.IntN.{ℤ, pos, negsuc}
use Rattle.column.specs.Paper.{answers}
use Rattle.column.specs.Questions.{agree, not_negative, fits, run_by_run, room_at, room_from, room}
use Rattle.column.specs.Runs.{ends_of, values_of}
use Rattle.column.proofs.Rows.{Row, row, Hold, refused, as_runs}
use Rattle.from_runs.specs.Calls.{runs_from, from_runs_asked, from_runs, repeat}

-- the greatest i64
abbrev greatest : ℤ
greatest = pos (2 ^ 63 - 1)

abbrev rows : List Row
rows =
    row (as_runs (from_runs (pos 3 ∷ pos 0 ∷ pos 2 ∷ []) (pos 7 ∷ pos 8 ∷ pos 2 ∷ []) (3 ∷ 3 ∷ []))) (answers ((pos 3 ∷ pos 5 ∷ []) ∷ (pos 7 ∷ pos 2 ∷ []) ∷ []))
    ∷ row (as_runs (from_runs (greatest ∷ pos 1 ∷ negsuc 0 ∷ []) (pos 7 ∷ pos 8 ∷ pos 2 ∷ []) (3 ∷ 3 ∷ []))) (refused 7 [] None)
    ∷ row (as_runs (from_runs (greatest ∷ negsuc 0 ∷ pos 1 ∷ []) (pos 7 ∷ pos 8 ∷ pos 2 ∷ []) (3 ∷ 3 ∷ []))) (refused 6 (pos 1 ∷ negsuc 0 ∷ []) None)
    ∷ row (as_runs (repeat (pos 7) (pos 0) (0 ∷ 1 ∷ []))) (refused 12 (pos 0 ∷ pos 1 ∷ pos 0 ∷ []) None)
    ∷ []

pub examples : Hold rows
unfolding agree not_negative fits run_by_run room_at room_from room ends_of values_of runs_from from_runs_asked from_runs repeat
examples = (refl, (refl, (refl, (refl, tt))))
