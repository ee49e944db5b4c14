-- The answers of the calls: a whole sequence is a window whose ends are asked about on the way.
-- Assumes nothing.
use Prim.Native.Nat.{ℕ}
use Rattle.std.specs.Prelude.{Some, None, Result, Ok, IsErrAnd}
use mathlib.Core.List.{List, ◌∷◌}
use mathlib.Core.Path.{◌≡◌, refl, ap, sym, ◌∙◌}
use lib.IntN.{ℤ, pos}
use lib.ListN.{length}
use mir.Syntax.{w64}
use mir.Val.{SFits}
use Rattle.column.specs.declared.error.Refusal.{Refusal}
use Rattle.column.specs.Asking.{Question, first_no, ◌otherwise◌}
use Rattle.column.specs.Paper.{PaperRefusal, paper}
use Rattle.column.specs.Questions.{agree, ends_from, ends_valid}
use Rattle.column.specs.Runs.{runs_of}
use Rattle.column.proofs.Promised.{passed_on, value-answered, value-refused}
use Rattle.column.proofs.Told.{agree-told}
use Rattle.slice.specs.declared.inner.search.TouchedRuns.{TouchedRuns}
use Rattle.reduce.specs.declared.Reduction.{Reduction}
use Rattle.reduce.specs.declared.inner.WindowReduction.{WindowReduction}
use Rattle.reduce.specs.Calls.{sum_runs, reduction, FiniteReduction, Reduces}
use Rattle.reduce.specs.Workers.{Window, whole_of, window_ends, ends_pass, SumOf, ReducesWindow}
use Rattle.reduce.proofs.Reducing.{sum_reduced}
use Rattle.reduce.proofs.Windows.{whole-ends, whole-runs, whole-window}

-- a "no" to the question that comes next
pub first_refused : {r : PaperRefusal} {q : Question} (qs : List Question) → Some r ≡ q → Some r ≡ first_no (q ∷ qs)
first_refused qs h = rw (sym h)

-- a reduction after a "yes" to every question, or a refusal
pub reduction-answered : {q : Question} {x y : Reduction} → q ≡ None → x ≡ y → FiniteReduction x → Reduces (q otherwise y) (Ok x)
reduction-answered h e f = record { answer = value-answered h e; finite = f }

pub reduction-refused : {q : Question} (y : Reduction) (r : Result Reduction Refusal) (e : Refusal) → IsErrAnd r (λ (z : Refusal). z ≡ e)
    → Some (paper e) ≡ q → Reduces (q otherwise y) r
reduction-refused y r e h f = record { answer = value-refused y r e h f; finite = rw (passed_on r e h) tt }

-- t is the whole sequence
module _ (es : List ℤ) {t : TouchedRuns} (et : t ≡ whole_of es) where
  -- question 4, as the walk put it
  pub asked-whole : (runs : ℕ) → ends_from 0 t.start (window_ends t es) ≡ ends_pass runs t.count → ends_pass runs (length es) ≡ ends_valid es
  unfolding ends_valid
  asked-whole runs a = sym (rw et at a) ∙ ap (ends_from 0 (pos 0)) (whole-ends es)

  rises-whole : ends_valid es ≡ None → ends_from 0 t.start (window_ends t es) ≡ None
  unfolding ends_valid
  rises-whole n = rw et (ap (ends_from 0 (pos 0)) (whole-ends es) ∙ n)

  module _ (vs : List ℤ) (l : None ≡ agree 3 (length es) (length vs)) where
    paired : length es ≡ length vs
    paired = agree-told 3 (length es) (length vs) (sym l)

    pub held-whole : SFits w64 t.end → Window t es vs
    held-whole f = rw et (whole-window es vs paired (rw et at f))

    pub reduced_whole : {code : ℕ} {ddof : ℤ} {r : WindowReduction} → ReducesWindow code ddof t es vs r → ends_valid es ≡ None
        → r.reduction ≡ reduction code ddof (runs_of es vs)
    reduced_whole {code} {ddof} w n = w.answer (rises-whole n) ∙ rw et (ap (reduction code ddof) (whole-runs es vs paired))

    pub summed-whole : SFits w64 t.end → {runs : ℕ} {total : ℤ} → SumOf t es vs runs total → ends_valid es ≡ None → total ≡ sum_runs (runs_of es vs)
    unfolding reduction
    summed-whole f s n = let z = reduced_whole (sum_reduced t es vs (held-whole f) (pos 0) refl s) n in cc

    pub finite-whole : {code : ℕ} {ddof : ℤ} {r : WindowReduction} → ReducesWindow code ddof t es vs r → ends_valid es ≡ None → FiniteReduction r.reduction
    finite-whole w n = w.finite (rises-whole n)
