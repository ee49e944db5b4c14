-- Runs written one after another, without those of length 0.
-- Assumes nothing.
use Prim.Native.Nat.{ℕ, zero, suc, ◌+◌, ◌≤◌, ◌<◌}
use mathlib.Core.List.{List, [], ◌∷◌, ◌++◌, append-nil}
use mathlib.Core.Path.{◌≡◌, refl, ap, sym, ◌∙◌}
use native.Mathlib.Nat.{add-zero}
use native.Mathlib.Numerals.{add-one}
use native.Mathlib.Omega.{arith}
use lib.IntN.{ℤ, pos}
use lib.ListN.{length, get_or, drop, set, length-append, length-set}
use lib.Seq.{drop-cons}
use borrow.Author.Tests.{ne_eqb}
use Rattle.num.specs.Numbers.{eq_z}
use Rattle.num.proofs.Tests.{by-test}
use Rattle.column.specs.Runs.{Run, Runs, ends_of, values_of, over, Filled}
use Rattle.column.proofs.Buffer.{over-next}
use Rattle.column.proofs.Sequences.{length-ends, length-values, ends-append, values-append}
use Rattle.from_runs.specs.Calls.{runs_from}
use Rattle.from_runs.specs.Workers.{PutRun}

-- one run of length k from position p on, and its value
abbrev pub one : ℕ → ℕ → ℤ → Runs
one p k x = runs_from p (pos k ∷ []) (x ∷ [])

one_none : (p : ℕ) (x : ℤ) → one p 0 x ≡ []
unfolding runs_from
one_none p x = refl

one-some : (p k : ℕ) (x : ℤ) → one p (suc k) x ≡ record { end = p + suc k; value = x } ∷ []
unfolding runs_from
one-some p k x = rw (ne_eqb (suc k) 0 (λ e. omega arith))

-- the first run, and those after it
pub runs-cons : (p k : ℕ) (x : ℤ) (rs vs : List ℤ) → runs_from p (pos k ∷ rs) (x ∷ vs) ≡ one p k x ++ runs_from (p + k) rs vs
unfolding runs_from
runs-cons p zero x rs vs = rw (add-zero p)
runs-cons p (suc k) x rs vs = rw (ne_eqb (suc k) 0 (λ e. omega arith))

-- the run at i, and those after it
pub runs-next : (p i k : ℕ) (rs vs : List ℤ) → i < length rs → i < length vs → get_or rs i (pos 0) ≡ pos k
    → runs_from p (drop i rs) (drop i vs) ≡ one p k (get_or vs i (pos 0)) ++ runs_from (p + k) (drop (i + 1) rs) (drop (i + 1) vs)
runs-next p i k rs vs h g e =
    rw (add-one, drop-cons rs i (pos 0), drop-cons vs i (pos 0), e) (runs-cons p k (get_or vs i (pos 0)) (drop (suc i) rs) (drop (suc i) vs))

ends-one : (rs : Runs) (r : Run) → ends_of (rs ++ r ∷ []) ≡ ends_of rs ++ pos r.end ∷ []
unfolding ends_of
ends-one rs r = ends-append rs (r ∷ [])

values_one : (rs : Runs) (r : Run) → values_of (rs ++ r ∷ []) ≡ values_of rs ++ r.value ∷ []
unfolding values_of
values_one rs r = values-append rs (r ∷ [])

-- ---- two buffers into whose front runs are written

module _ {rs : Runs} {e₀ e v₀ v e' v' : List ℤ} {n m : ℕ} (f : Filled rs e₀ e v₀ v n) where
  -- one more run, of length k up to p + k, unless k is 0
  pub put_filled : (p k : ℕ) (x : ℤ) {run end : ℤ} → run ≡ pos k → end ≡ pos (p + k) → PutRun e e' v v' n run end x m → n < length e₀ → n < length v₀
      → Filled (rs ++ one p k x) e₀ e' v₀ v' m
  put_filled p zero x er ee d le lv =
      let c = rw er at d.count in
      let a = rw er at d.ends in
      let b = rw er at d.values in
      rw (one_none p x, append-nil)
      (record { count = c ∙ f.count; ends = a ∙ f.ends; values = b ∙ f.values })
  put_filled p (suc k) x er ee d le lv =
      let r : Run = record { end = p + suc k; value = x } in
      let s = ne_eqb (suc k) 0 (λ e. omega arith) in
      let c = rw (er, s) at d.count in
      let a = rw (er, s, ee) at d.ends in
      let b = rw (er, s) at d.values in
      rw (one-some p k x)
      (record {
        count = c ∙ simp length-append (omega (arith, f.count));
        ends = a ∙ ap (λ (l : List ℤ). set l n (pos (p + suc k))) f.ends
            ∙ over-next (ends_of rs) e₀ n (pos (p + suc k)) (f.count ∙ sym (length-ends rs)) le
            ∙ ap (λ (l : List ℤ). over l e₀) (sym (ends-one rs r));
        values = b ∙ ap (λ (l : List ℤ). set l n x) f.values
            ∙ over-next (values_of rs) v₀ n x (f.count ∙ sym (length-values rs)) lv
            ∙ ap (λ (l : List ℤ). over l v₀) (sym (values_one rs r));
      })

module _ {e v : List ℤ} {n : ℕ} {run end value : ℤ} where
  -- at most one entry more
  pub put_few : {e' v' : List ℤ} {m : ℕ} → PutRun e e' v v' n run end value m → m ≤ n + 1
  put_few d = by-test (eq_z run (pos 0)) (λ t. let c = rw t at d.count in omega arith) (λ t. let c = rw t at d.count in omega arith)

  -- and the buffers stay as long
  module _ {e' v' : List ℤ} {m : ℕ} (d : PutRun e e' v v' n run end value m) where
    pub put_long_ends : length e' ≡ length e
    put_long_ends = ap length d.ends ∙ by-test (eq_z run (pos 0)) (λ t. rw t) (λ t. rw (t, length-set))

    pub put_long_values : length v' ≡ length v
    put_long_values = ap length d.values ∙ by-test (eq_z run (pos 0)) (λ t. rw t) (λ t. rw (t, length-set))
