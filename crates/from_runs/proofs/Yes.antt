-- What a call's questions tell where all are answered "yes": what its worker requires.
-- Assumes nothing.
use Prim.Native.Nat.{◌≤◌}
use Rattle.std.specs.Prelude.{None}
use mathlib.Core.List.{List, [], ◌∷◌}
use mathlib.Core.Path.{◌≡◌}
use lib.IntN.{ℤ}
use lib.ListN.{length}
use Rattle.column.specs.Questions.{agree, run_by_run, room, both}
use Rattle.column.proofs.FirstNo.{all_yes}
use Rattle.column.proofs.Told.{agree-told, both_told}
use Rattle.from_runs.specs.Calls.{from_runs_asked}

module _ (e v : List ℤ) where
  pub from-runs-yes : (runs values : List ℤ) → from_runs_asked runs values (length e ∷ length v ∷ []) ≡ None
      → (length runs ≡ length values) × (run_by_run 0 0 runs ≡ None) × (length runs ≤ length e) × (length runs ≤ length v)
  unfolding from_runs_asked
  from-runs-yes runs values h =
      let y = all_yes (agree 1 (length runs) (length values) ∷ run_by_run 0 0 runs ∷ room (both (length runs)) (length e ∷ length v ∷ []) ∷ []) h in
      let r = both_told (length runs) (length e) (length v) y.1.1.0 in
      (agree-told 1 (length runs) (length values) y.0, y.1.0, r.0, r.1)
