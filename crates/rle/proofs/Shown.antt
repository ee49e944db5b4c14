-- What the positions of a sequence show that `push_run` or `extend_to` has made.
-- Assumes nothing.
use Prim.Native.Nat.{ℕ, ◌-◌, ◌≤◌}
use Rattle.std.specs.Prelude.{None}
use mathlib.Core.List.{List, [], ◌∷◌, ◌++◌, append-nil}
use mathlib.Core.Path.{◌≡◌, ap, sym, ◌∙◌}
use native.Mathlib.Omega.{arith}
use lib.Dec.{eqb}
use lib.IntN.{ℤ}
use lib.ListN.{replicate}
use borrow.Author.Tests.{eqb-true}
use Rattle.num.proofs.Tests.{by-test}
use Rattle.column.specs.Questions.{ends_valid}
use Rattle.column.specs.Runs.{Sequence, to_nat, runs, length_of, dense}
use Rattle.column.proofs.Dense.{dense-append, dense_push}
use Rattle.column.proofs.Ends.{rising, runs-rise}
use Rattle.from_runs.specs.Calls.{runs_from}
use Rattle.from_runs.proofs.Shown.{shown-from}
use Rattle.rle.specs.Calls.{used, present_length, pushed, extended}

module _ (buffers : Sequence) (n : ℕ) where
  pub push_run-shows : (run value : ℤ) → dense (pushed buffers n run value) ≡ dense (runs (used n buffers)) ++ replicate (to_nat run) value
  unfolding pushed
  push_run-shows run value =
      let p = present_length n buffers in
      let shown = shown-from p (run ∷ []) (value ∷ []) ∙ append-nil (replicate (to_nat run) value) in
      dense-append (runs (used n buffers)) (runs_from p (run ∷ []) (value ∷ [])) ∙ ap (λ (l : List ℤ). dense (runs (used n buffers)) ++ l) shown

  pub extend_to-shows : (requested value : ℤ) → ends_valid (used n buffers).ends ≡ None → present_length n buffers ≤ to_nat requested
      → dense (extended buffers n requested value) ≡ dense (runs (used n buffers)) ++ replicate (to_nat requested - present_length n buffers) value
  unfolding extended
  extend_to-shows requested value valid h =
      let rs = runs (used n buffers) in
      by-test (eqb (to_nat requested) (length_of rs))
      (λ t. let e : to_nat requested - length_of rs ≡ 0 = omega (arith, eqb-true (to_nat requested) (length_of rs) t) in
      rw (t, e) (sym (append-nil (dense rs))))
      (λ t. rw t (dense_push rs (to_nat requested) value (runs-rise 0 (used n buffers).ends (used n buffers).values (rising (used n buffers).ends valid)) h))
