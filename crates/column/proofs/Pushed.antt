-- Runs as a loop makes them: what it is that they are merged, and one more run pushed onto them.
use Prim.Native.Nat.{ℕ, zero, suc}
use mathlib.Core.Bool.{false, cond}
use mathlib.Core.List.{[], ◌∷◌}
use mathlib.Core.Path.{◌≡◌}
use lib.IntN.{ℤ}
use Rattle.num.specs.Numbers.{eq_z}
use Rattle.column.specs.Runs.{Runs}

-- no run follows that has the value v
abbrev pub Differs : ℤ → Runs → Type 0
Differs v [] = Unit {0}
Differs v (r ∷ rs) = eq_z v r.value ≡ false

-- neighbours differ
abbrev pub Merged : Runs → Type 0
Merged [] = Unit {0}
Merged (r ∷ rs) = Differs r.value rs × Merged rs

-- where run i starts, and the run itself
unfoldable pub start_at : ℕ → Runs → ℕ → ℕ
start_at p rs zero = p
start_at p [] (suc i) = p
start_at p (r ∷ rs) (suc i) = start_at r.end rs i

-- where a run of value v goes after the runs: over the last one if that has the value v, else after it
unfoldable pub place : Runs → ℤ → ℕ
place [] v = 0
place (r ∷ []) v = cond (eq_z r.value v) 0 1
place (r ∷ s ∷ rs) v = suc (place (s ∷ rs) v)
