-- Two sequences as columns: their ends, where a walk over them starts, and what they show together at runs of both.
-- Assumes nothing.
use Prim.Native.Nat.{ℕ, ◌+◌, ◌≤◌}
use Rattle.std.specs.Prelude.{None, Option}
use mathlib.Core.List.{List, [], ◌∷◌, map}
use mathlib.Core.Path.{◌≡◌, refl, ap}
use native.Mathlib.Omega.{arith}
use lib.IntN.{ℤ}
use lib.ListN.{length, get_or, length-map}
use Rattle.column.specs.Combine.{Column, two, value_of, combined, table}
use Rattle.column.specs.Questions.{ends_valid}
use Rattle.column.specs.Runs.{Run, Runs, to_nat, runs_of, dense}
use Rattle.column.proofs.All.{All}
use Rattle.column.proofs.Ends.{rising, runs-rise, values-runs}
use Rattle.column.proofs.Rising.{Valid}
use Rattle.plan.specs.Calls.{ends_in, segments_of, segment_run, segment_runs}
use Rattle.plan.proofs.Raw.{raw_dense}
use Rattle.plan.proofs.Walking.{firsts}
use Rattle.plan.proofs.Zipping.{starts, shown_at, combined-few}

pub ends_in_lem : (es vs : List ℤ) → length es ≡ length vs → ends_in (runs_of es vs) ≡ map to_nat es
unfolding runs_of
ends_in_lem [] vs l = refl
ends_in_lem (e ∷ es) [] l = let z : ⊥ = omega arith in absurd z
ends_in_lem (e ∷ es) (v ∷ vs) l = ap {B = List ℕ} (λ r. to_nat e ∷ r) (ends_in_lem es vs (omega arith))

-- two columns combined have no more runs than both
pub two-few : (op : ℤ → ℤ → ℤ) (fa fb : Option ℤ) (a b : Runs) → Valid a → Valid b → length (combined op (two fa fb a b)) ≤ length a + length b
two-few op fa fb a b va vb =
    omega (arith, combined-few op (two fa fb a b) (va, (vb, tt)), length-map a (λ (r : Run). r.end), length-map b (λ (r : Run). r.end))

module _ (op : ℤ → ℤ → ℤ) (fa fb : Option ℤ) (ae av be bv : List ℤ) where
  abbrev pub both : List Column
  both = two fa fb (runs_of ae av) (runs_of be bv)

  pub both-valid : ends_valid ae ≡ None → ends_valid be ≡ None → All (λ (c : Column). Valid c.runs) both
  both-valid va vb = (runs-rise 0 ae av (rising ae va), (runs-rise 0 be bv (rising be vb), tt))

  module _ (la : length ae ≡ length av) (lb : length be ≡ length bv) where
    pub both-start : starts op both ≡ firsts ae be
    both-start = rw (ends_in_lem ae av la, ends_in_lem be bv lb)

    pub both-shown : (i j : ℕ) → shown_at op both (i ∷ j ∷ []) ≡ op (get_or av i (value_of fa)) (get_or bv j (value_of fb))
    both-shown i j = rw (values-runs ae av la, values-runs be bv lb)

    -- what the runs at plan's indexes show together, each as far as its segment goes, is what the columns show at every position
    pub plan-shows : ends_valid ae ≡ None → ends_valid be ≡ None → dense (map (segment_run op both) (segments_of ae be)) ≡ table op both
    unfolding segment_runs
    plan-shows va vb = rw (ends_in_lem ae av la, ends_in_lem be bv lb) at (raw_dense op both (both-valid va vb))
