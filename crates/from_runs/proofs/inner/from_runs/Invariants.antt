use Prim.Native.Nat.{ℕ, ◌+◌, ◌≤◌, ◌<◌}
use Rattle.std.specs.Prelude.{None}
use mathlib.Core.List.{List, [], ◌++◌, append-nil, append_assoc}
use mathlib.Core.Path.{◌≡◌, refl, sym, ap, ◌∙◌}
use native.Mathlib.Omega.{arith}
use lib.IntN.{ℤ, pos, ◌+ℤ◌}
use lib.ListN.{length, get_or, drop, drop_of_length-le}
use mir.Syntax.{w64}
use mir.Val.{SFits}
use Rattle.column.specs.Questions.{run_by_run}
use Rattle.column.specs.Runs.{Runs, to_nat, Filled}
use Rattle.column.proofs.Merging.{fill_none}
use Rattle.column.proofs.Naturals.{natural}
use Rattle.column.proofs.Told.{run-natural, run_fits, runs-yes}
use Rattle.from_runs.specs.Calls.{runs_from}
use Rattle.from_runs.specs.Workers.{PutRun}
use Rattle.from_runs.proofs.Runwise.{one, runs-next, put_filled, put_few, put_long_ends, put_long_values}
use Rattle.from_runs.proofs.inner.from_runs.Given as goal

-- the first i runs are written, up to position p, without those of length 0
pub record Inv (runs values e₀ v₀ e v : List ℤ) (end : ℤ) (n i : ℕ) : Type 0 where
  pub p : ℕ
  pub done : Runs
  pub filled : Filled done e₀ e v₀ v n
  pub whole : runs_from 0 runs values ≡ done ++ runs_from p (drop i runs) (drop i values)
  pub yes : run_by_run i p (drop i runs) ≡ None
  pub reached : end ≡ pos p
  pub few : n ≤ i
  pub long_ends : length e ≡ length e₀
  pub long_values : length v ≡ length v₀

pub inv-start : (runs values e₀ v₀ : List ℤ) → run_by_run 0 0 runs ≡ None → Inv runs values e₀ v₀ e₀ v₀ (pos 0) 0 0
inv-start runs values e₀ v₀ h = record {
  p = 0;
  done = [];
  filled = fill_none e₀ v₀;
  whole = refl;
  yes = h;
  reached = refl;
  few = omega arith;
  long_ends = refl;
  long_values = refl;
}

module _ {runs values e₀ v₀ e v : List ℤ} {end : ℤ} {n i : ℕ} (m : Inv runs values e₀ v₀ e v end n i) where
  pub inv-end : length runs ≤ i → Filled (runs_from 0 runs values) e₀ e v₀ v n
  unfolding runs_from
  inv-end h =
      let none_left : drop i runs ≡ [] = drop_of_length-le runs {i = i} h in
      rw (rw (none_left, append-nil) at m.whole) m.filled

  module _ (h : i < length runs) where
    -- the run that comes next is a natural number, and the new end fits
    pub inv-run : get_or runs i (pos 0) ≡ pos (to_nat (get_or runs i (pos 0)))
    inv-run = natural (get_or runs i (pos 0)) (run-natural m.p i runs h m.yes)

    pub inv-sum : {run : ℤ} → run ≡ get_or runs i (pos 0) → end +ℤ run ≡ pos (m.p + to_nat (get_or runs i (pos 0)))
    inv-sum er = rw (er, m.reached, inv-run)

    pub inv-fits : {run : ℤ} → run ≡ get_or runs i (pos 0) → SFits w64 (end +ℤ run)
    inv-fits er = rw (inv-sum er) (record { sfits = run_fits m.p i runs h m.yes })

    pub inv-more : {run value end' : ℤ} {e' v' : List ℤ} {n' : ℕ} → length runs ≡ length values → length runs ≤ length e₀ → length runs ≤ length v₀
        → run ≡ get_or runs i (pos 0) → value ≡ get_or values i (pos 0) → end' ≡ end +ℤ run
        → PutRun e e' v v' n run end' value n' → Inv runs values e₀ v₀ e' v' end' n' (i + 1)
    inv-more same le lv er ev ee d =
        let k = to_nat (get_or runs i (pos 0)) in
        let q = ee ∙ inv-sum er in
        let x = get_or values i (pos 0) in
        let f = put_filled m.filled m.p k _ (er ∙ inv-run) q d (omega (arith, m.few)) (omega (arith, m.few)) in
        let next = runs-next m.p i k runs values h (omega arith) inv-run in
        let rest = runs_from (m.p + k) (drop (i + 1) runs) (drop (i + 1) values) in
        record {
          p = m.p + k;
          done = m.done ++ one m.p k x;
          filled = rw ev at f;
          whole = m.whole ∙ ap (λ (l : Runs). m.done ++ l) next ∙ sym (append_assoc m.done (one m.p k x) rest);
          yes = runs-yes m.p i runs h m.yes;
          reached = q;
          few = let s = put_few d in omega (arith, m.few);
          long_ends = put_long_ends d ∙ m.long_ends;
          long_values = put_long_values d ∙ m.long_values;
        }

abbrev pub invariant-loop-i : goal.invariant-loop-i
invariant-loop-i l = Inv l.runs l.values l.initial.out_ends l.initial.out_values l.out_ends l.out_values l.end l.n l.i
