-- The slices of intervals, and how many runs they have.
-- Assumes nothing.
use Prim.Native.Nat.{ℕ, zero, suc, ◌+◌, ◌≤◌, ◌<◌, ◌^◌}
use Rattle.std.specs.Prelude.{None}
use mathlib.Core.List.{List, [], ◌∷◌, map}
use mathlib.Core.Path.{◌≡◌, refl, ap, ap₂}
use native.Mathlib.Numerals.{add-one}
use native.Mathlib.Omega.{arith}
use lib.IntN.{ℤ, pos}
use lib.ListN.{length, get_or, drop, drop_of_length-le}
use lib.Seq.{drop-cons}
use mir.Syntax.{w64}
use mir.Val.{SFits, to_z, of_z}
use mir.Facts.{to_z-of_z}
use Rattle.num.specs.Numbers.{saturated}
use Rattle.column.specs.Lists.{total}
use Rattle.column.specs.Questions.{ends_valid}
use Rattle.column.specs.Runs.{Runs, runs_of}
use Rattle.slice.specs.Workers.{touched_by}
use Rattle.slice.specs.Calls.{slice_runs}
use Rattle.getitems.specs.Calls.{interval_runs}
use Rattle.getitems.specs.Workers.{found, interval_counts}
use Rattle.slice.proofs.Touching.{touched_count}

-- ---- the slice of each interval

pub length-items : (starts stops : List ℤ) (rs : Runs) → length starts ≡ length stops → length (interval_runs starts stops rs) ≡ length starts
unfolding interval_runs
length-items [] stops rs l = refl
length-items (s ∷ ss) [] rs l = let z : ⊥ = omega arith in absurd z
length-items (s ∷ ss) (e ∷ es) rs l = ap suc (length-items ss es rs (omega arith))

pub item_at : (starts stops : List ℤ) (rs : Runs) (i : ℕ) → length starts ≡ length stops → i < length starts
    → get_or (interval_runs starts stops rs) i [] ≡ slice_runs (get_or starts i (pos 0)) (get_or stops i (pos 0)) rs
unfolding interval_runs
item_at [] stops rs i l h = let z : ⊥ = omega arith in absurd z
item_at (s ∷ ss) [] rs i l h = let z : ⊥ = omega arith in absurd z
item_at (s ∷ ss) (e ∷ es) rs zero l h = refl
item_at (s ∷ ss) (e ∷ es) rs (suc i) l h = item_at ss es rs i (omega arith) (omega arith)

pub counts_are : (starts stops es vs : List ℤ) → ends_valid es ≡ None → length es ≡ length vs
    → interval_counts starts stops es ≡ map length (interval_runs starts stops (runs_of es vs))
unfolding interval_counts interval_runs
counts_are [] stops es vs v l = refl
counts_are (s ∷ ss) [] es vs v l = refl
counts_are (s ∷ ss) (e ∷ ts) es vs v l = ap₂ (λ (n : ℕ) (ns : List ℕ). n ∷ ns) (touched_count s e es vs v l) (counts_are ss ts es vs v l)

-- ---- their runs counted, up to the greatest number that is shown: the first i are counted

pub record Counting (starts stops es : List ℤ) (n i : ℕ) : Type 0 where
  pub shown : n < 2 ^ 64
  pub left : ends_valid es ≡ None → length starts ≡ length stops
      → saturated (n + total (interval_counts (drop i starts) (drop i stops) es)) ≡ saturated (total (interval_counts starts stops es))

abbrev held : ℤ → ℤ
held z = to_z w64 (of_z w64 z)

module _ {starts stops es : List ℤ} {n i : ℕ} (c : Counting starts stops es n i) where
  -- by what the locals hold
  pub counting_next : i < length starts → SFits w64 (get_or starts i (pos 0)) → SFits w64 (get_or stops i (pos 0)) → {first last k m : ℕ}
      → (ends_valid es ≡ None → first ≡ found es 0 (get_or starts i (pos 0))) → (ends_valid es ≡ None → last ≡ found es 1 (get_or stops i (pos 0)))
      → (ends_valid es ≡ None → first ≡ found es 0 (held (get_or starts i (pos 0))) → last ≡ found es 1 (held (get_or stops i (pos 0)))
      → k ≡ (touched_by (held (get_or starts i (pos 0))) (held (get_or stops i (pos 0))) es).count)
      → m ≡ saturated (n + k) → Counting starts stops es m (i + 1)
  unfolding interval_counts
  counting_next h fs fe {k = k} ef el ek em = record {
    shown = omega arith;
    left = λ v l. let j : i < length stops = omega arith in
        let e : k ≡ (touched_by (get_or starts i (pos 0)) (get_or stops i (pos 0)) es).count = (rw (to_z-of_z fs, to_z-of_z fe) at ek) v (ef v) (el v) in
        let r = total (interval_counts (drop (i + 1) starts) (drop (i + 1) stops) es) in
        let d : total (interval_counts (drop i starts) (drop i stops) es) ≡ k + total (interval_counts (drop (i + 1) starts) (drop (i + 1) stops) es) =
        rw (add-one i, drop-cons starts i (pos 0) h, drop-cons stops i (pos 0) j, e) in
        omega (arith, c.left v l);
  }

  pub counting_end : length starts ≤ i → ends_valid es ≡ None → length starts ≡ length stops → n ≡ saturated (total (interval_counts starts stops es))
  unfolding interval_counts
  counting_end h v l =
      let z : drop i starts ≡ [] = drop_of_length-le starts {i = i} h in
      let e : saturated (n + 0) ≡ saturated (total (interval_counts starts stops es)) = rw z at (c.left v l) in
      omega (arith, c.shown)
