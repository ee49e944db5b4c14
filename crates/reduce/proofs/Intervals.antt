-- The reductions of the slices of intervals, written one after another; and the questions of that call, as the code joins them.
-- Assumes nothing.
use Prim.Native.Nat.{ℕ, ◌+◌, ◌≤◌, ◌<◌, ◌^◌}
use mathlib.Core.Bool.{not}
use Rattle.std.specs.Prelude.{Some, None, Result, Ok, IsErrAnd}
use mathlib.Core.List.{List, [], ◌∷◌, ◌++◌}
use mathlib.Core.Path.{◌≡◌, refl, ap, sym, ◌∙◌}
use native.Mathlib.Numerals.{add-one}
use native.Mathlib.Omega.{arith}
use lib.Dec.{T}
use lib.Ieee.{Float, nan, inf, fin, is_nan}
use lib.Ieee.Scale.{finite}
use lib.IntN.{ℤ}
use lib.ListN.{length, get_or, take, set}
use lib.Seq.{take-suc, take_all}
use lib.Signed.{mag}
use Rattle.column.specs.declared.error.Refusal.{Refusal}
use Rattle.column.specs.Asking.{Question, ◌otherwise◌}
use Rattle.column.specs.Paper.{answers, paper}
use Rattle.column.specs.Questions.{ends_valid}
use Rattle.column.specs.Runs.{runs_of}
use Rattle.column.proofs.Buffer.{Written, write_start, write_next}
use Rattle.column.proofs.Promised.{passed_on}
use Rattle.slice.specs.declared.inner.search.TouchedRuns.{TouchedRuns}
use Rattle.slice.specs.Workers.{touched_by}
use Rattle.slice.specs.Calls.{slice_runs}
use Rattle.reduce.specs.declared.Reduction.{Reduction}
use Rattle.reduce.specs.declared.inner.WindowReduction.{WindowReduction}
use Rattle.reduce.specs.Calls.{reduction, FiniteReduction, kind_of, bits_of, all_kinds, all_bits, WrittenReductions}
use Rattle.reduce.specs.Workers.{Window, ReducesWindow, FilledReductions}
use Rattle.reduce.proofs.Windows.{window_of, window-rises, window-slice}

-- a float of an answer has bits
pub finite_no_nan : (x : Float) → T (finite x) → T (not (is_nan x))
unfolding is_nan
finite_no_nan nan h = absurd h
finite_no_nan (inf s) h = tt
finite_no_nan (fin s m e) h = tt

-- ---- of a slice, by the runs that the code found

module _ (es vs : List ℤ) (valid : ends_valid es ≡ None) (l : length es ≡ length vs) (x y : ℤ) {t : TouchedRuns}
    (et : ends_valid es ≡ None → t ≡ touched_by x y es) where
  pub slice-window : mag t.end < 2 ^ 63 → Window t es vs
  slice-window f = rw (et valid) (window_of x y es vs valid l (rw (et valid) at f))

  module _ {code : ℕ} {ddof : ℤ} {r : WindowReduction} (w : ReducesWindow code ddof t es vs r) where
    reduces : ReducesWindow code ddof (touched_by x y es) es vs r
    reduces = rw (et valid) at w

    pub slice-finite : FiniteReduction r.reduction
    slice-finite = reduces.finite (window-rises x y es valid)

    pub slice_reduced : r.reduction ≡ reduction code ddof (slice_runs x y (runs_of es vs))
    slice_reduced = reduces.answer (window-rises x y es valid) ∙ ap (reduction code ddof) (window-slice x y es vs valid l)

-- ---- reductions written one after another: the first i are

pub record Filling (rs : List Reduction) (k₀ k b₀ b : List ℕ) (i : ℕ) : Type 0 where
  pub kinds : Written kind_of (take i rs) k₀ k i
  pub bits : Written bits_of (take i rs) b₀ b i

pub filling_start : (rs : List Reduction) (k₀ b₀ : List ℕ) → Filling rs k₀ k₀ b₀ b₀ 0
filling_start rs k₀ b₀ = record { kinds = write_start kind_of k₀; bits = write_start bits_of b₀ }

pub filling_next : {rs : List Reduction} {k₀ k b₀ b : List ℕ} {i : ℕ} → Filling rs k₀ k b₀ b i → i < length rs → length rs ≤ length k₀ → length rs ≤ length b₀
    → {r : Reduction} (d : Reduction) → r ≡ get_or rs i d → {x y : ℕ} → x ≡ kind_of r → y ≡ bits_of r → Filling rs k₀ (set k i x) b₀ (set b i y) (i + 1)
filling_next {rs = rs} {i = i} s h hk hb {r} d er ex ey =
    let next : take (i + 1) rs ≡ take i rs ++ r ∷ [] = ap (λ (n : ℕ). take n rs) (add-one i) ∙ take-suc rs i d h
    ∙ ap (λ (a : Reduction). take i rs ++ a ∷ []) (sym er) in
    record {
      kinds = rw next (write_next kind_of s.kinds (omega arith) r ex);
      bits = rw next (write_next bits_of s.bits (omega arith) r ey);
    }

pub filling_end : {rs : List Reduction} {k₀ k b₀ b : List ℕ} {i : ℕ} → Filling rs k₀ k b₀ b i → length rs ≤ i → FilledReductions rs k₀ k b₀ b i
unfolding all_kinds all_bits
filling_end {rs = rs} {i = i} s h =
    let all : take i rs ≡ rs = take_all i rs h in
    record { count = rw all at s.kinds.count; kinds = rw all at s.kinds.entries; bits = rw all at s.bits.entries }

-- ---- what a worker wrote, after a "yes" to every question, is what a call promises; and so is what was there, after a "no"

pub reductions-written : {q : Question} (rs : List Reduction) {k k' b b' : List ℕ} {n : ℕ} → q ≡ None → FilledReductions rs k k' b b' n
    → WrittenReductions (q otherwise rs) (Ok n) k k' b b'
reductions-written rs h f = rw h (record { answer = ap answers f.count; kinds = f.kinds; bits = f.bits })

pub reductions-refused : {q : Question} (rs : List Reduction) (r : Result ℕ Refusal) (e : Refusal) {k b : List ℕ}
    → IsErrAnd r (λ (x : Refusal). x ≡ e) → Some (paper e) ≡ q → WrittenReductions (q otherwise rs) r k k b b
reductions-refused rs r e h f = rw (sym f, passed_on r e h) (record { answer = refl; kinds = refl; bits = refl })
