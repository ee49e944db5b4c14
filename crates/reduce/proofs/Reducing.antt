-- What a window is reduced to, from what the steps over its runs come to.
-- Assumes nothing.
use Prim.Native.Nat.{ℕ, ◌≤◌, ◌<◌, ◌^◌}
use mathlib.Core.Bool.{Bool, true, false, cond, ◌&&◌}
use Rattle.std.specs.Prelude.{None}
use mathlib.Core.List.{List, [], ◌∷◌}
use mathlib.Core.Path.{◌≡◌, refl, ap, ap₂, sym, ◌∙◌}
use native.Mathlib.Omega.{arith}
use lib.Dec.{T, eqb, lit≤}
use lib.IntN.{ℤ, pos, ◌-ℤ◌}
use lib.Ieee.{Float, nan, inf, fin, binary64, div}
use lib.Ieee.Scale.{finite}
use lib.Signed.{mag, le_z, lt_z}
use mir.Syntax.{w64}
use mir.Val.{SFits}
use mir.Facts.{to_z-of_z}
use borrow.Author.Tests.{leb-true, leb-false, ne_eqb, le-leb, lt-leb, lt-ltb}
use Rattle.num.specs.Numbers.{wrap}
use Rattle.num.proofs.Tests.{by-test, both_true}
use Rattle.float.specs.Float.{converted, Within}
use Rattle.float.proofs.Converted.{converted-one}
use Rattle.float.proofs.Operations.{div-within}
use Rattle.column.specs.Asking.{Question, refusal}
use Rattle.column.specs.Questions.{ends_from}
use Rattle.column.specs.Runs.{to_nat, runs_of, length_of, last_from}
use Rattle.column.proofs.Ends.{from_check, runs-rise}
use Rattle.column.proofs.Naturals.{to_nat-below}
use Rattle.column.proofs.Rising.{Rising}
use Rattle.slice.specs.declared.inner.search.TouchedRuns.{TouchedRuns}
use Rattle.num.proofs.Difference.{difference_of}
use Rattle.reduce.specs.declared.Reduction.{Reduction}
use Rattle.reduce.specs.declared.Reduction.TheVariants.{Whole, Fraction, Nothing}
use Rattle.reduce.specs.Calls.{fold_runs, add_weight, add_product, add_square, plus_zero, sum_runs, mean_of, variance_of, has_variance, reduction}
use Rattle.reduce.specs.Workers.{Window, window_ends, window_values, window_runs, body_of, ends_pass, SumOf, ProductsOf, Squarable, SquaresOf}
use Rattle.reduce.specs.Workers.{divisor_of, VarianceBy, ReducesWindow}
use Rattle.reduce.proofs.Divisor.{divisor_natural}
use Rattle.reduce.proofs.Sums.{wrapped_fold}
use Rattle.reduce.proofs.Totals.{body_rises}
use Rattle.num.proofs.Bits.{back}
use Rattle.reduce.proofs.Walking.{held, above, last-natural, last-above}
use Rattle.reduce.proofs.Windows.{fold_counted, counted_none, counted-length}

pub within-finite : (j : ℕ) (x : Float) → Within j x → T (finite x)
within-finite j (fin s m e) h = tt
within-finite j nan h = elim h [ ]
within-finite j (inf _) h = elim h [ ]

not-zero : (z : ℤ) → le_z (pos 1) z ≡ true → z ≡ pos 0 → ⊥
not-zero z h e = let q : ◌≡◌ {A = Bool} false true = rw e at h in let x : ◌≡◌ {A = ℕ} 0 1 = cc in omega arith

-- ---- the variance by a divisor

module _ (t : TouchedRuns) (es vs : List ℤ) (mean : Float) (d : ℤ) (nat : d ≡ pos (to_nat d)) where
  pub variance_none : le_z d (pos 0) ≡ true → VarianceBy d t es vs mean Nothing
  variance_none h =
      let z : to_nat d ≡ 0 = omega (arith, leb-true (to_nat d) 0 (ap (λ (z : ℤ). le_z z (pos 0)) (sym nat) ∙ h)) in
      record { none_by_zero = λ e. refl; answer = λ n. absurd (n (nat ∙ ap pos z)); finite = tt }

  pub variance_some : le_z d (pos 0) ≡ false → SFits w64 d → {total x : Float} → SquaresOf mean t es vs total → Within 180 mean
      → x ≡ div binary64 total (converted d)
      → VarianceBy d t es vs mean (Fraction (record { mean = mean; variance = x }))
  variance_some h f {total} {x} q k ex =
      let p : 0 < to_nat d = leb-false (to_nat d) 0 (ap (λ (z : ℤ). le_z z (pos 0)) (sym nat) ∙ h) in
      let o = ap converted (sym nat) in
      let b : Within 480 x = rw ex (div-within binary64 480 total (converted d) (lit≤ tt) q.kept (rw nat (converted-one (to_nat-below d f) p))) in
      record {
        none_by_zero = λ e. absurd (let z : to_nat d ≡ 0 = ap to_nat e in let y : ⊥ = omega arith in y);
        answer = λ n. ap (λ (y : Float). Fraction (record { mean = mean; variance = y })) (ex ∙ ap (λ (y : Float). div binary64 y (converted d)) q.folded);
        finite = (within-finite 180 mean k, within-finite 480 x b);
      }

module _ (t : TouchedRuns) (es vs : List ℤ) (w : Window t es vs) where
  abbrev Rises : Type 0
  Rises = ends_from 0 t.start (window_ends t es) ≡ None

  rising-runs : Rises → Rising (to_nat t.start) (runs_of (window_ends t es) (window_values t vs))
  rising-runs n = runs-rise (to_nat t.start) (window_ends t es) (window_values t vs)
      (from_check (to_nat t.start) 0 (window_ends t es) (ap (λ (z : ℤ). ends_from 0 z (window_ends t es)) (sym w.natural) ∙ n))

  folds : {A : Type 0} (step : A → ℕ → ℤ → A) (a : A) → Rises
      → fold_runs step a (to_nat t.start) (runs_of (window_ends t es) (window_values t vs)) ≡ fold_runs step a 0 (window_runs t es vs)
  folds step a n = fold_counted step a (to_nat t.start) _ (rising-runs n)

  -- where not all ends rise, they are refused
  refused : {runs : ℕ} → ends_from 0 t.start (window_ends t es) ≡ ends_pass runs t.count → runs < t.count → Rises → ⊥
  refused {runs} a h n =
      let q : ◌≡◌ {A = Question} (refusal 4 (pos runs ∷ [])) None = sym (rw (lt-leb t.count runs h) at a) ∙ n in
      let x : ◌≡◌ {A = ℕ} 0 1 = cc in
      omega arith

  -- ---- the sum

  pub sum_reduced : (ddof : ℤ) {code runs : ℕ} {total : ℤ} → code ≡ 0 → SumOf t es vs runs total
      → ReducesWindow code ddof t es vs (record { runs = runs; reduction = Whole total })
  unfolding reduction sum_runs
  sum_reduced ddof {code} {runs} {total} e s = record {
    asked = s.asked;
    answer = λ n. rw e
        (ap Whole (s.folded n ∙ wrapped_fold (to_nat t.start) (runs_of (window_ends t es) (window_values t vs)) ∙ ap wrap (folds add_weight (pos 0) n)));
    finite = λ n. tt;
  }

  -- ---- no run, or an end that does not rise

  pub none_reduced : (ddof : ℤ) {code : ℕ} → (code ≡ 0 → ⊥) → t.count ≡ 0 → ReducesWindow code ddof t es vs (record { runs = 0; reduction = Nothing })
  unfolding reduction has_variance length_of window_ends ends_from
  none_reduced ddof {code} c e = record {
    asked = rw e;
    answer = λ n. rw (counted_none t es vs e, ne_eqb code 0 c) (by-test (eqb code 1) (λ b. rw b) (λ b. rw b));
    finite = λ n. tt;
  }

  pub short_reduced : (code : ℕ) (ddof : ℤ) {runs : ℕ} → ends_from 0 t.start (window_ends t es) ≡ ends_pass runs t.count → runs < t.count
      → ReducesWindow code ddof t es vs (record { runs = runs; reduction = Nothing })
  short_reduced code ddof a h = record { asked = a; answer = λ n. absurd (refused a h n); finite = λ n. tt }

  -- ---- one run or more, whose ends rise

  pub all-rise : {runs : ℕ} → ends_from 0 t.start (window_ends t es) ≡ ends_pass runs t.count → t.count ≤ runs → Rises
  all-rise {runs} a h = a ∙ rw (le-leb t.count runs h)

  module _ (some : t.count ≡ 0 → ⊥) (n : Rises) where
    all_asked : ends_from 0 t.start (window_ends t es) ≡ ends_pass t.count t.count
    all_asked = n ∙ sym (rw (le-leb t.count t.count (omega arith)))

    end-above : (t.end ≡ pos (to_nat t.end)) × (to_nat t.start < to_nat t.end)
    end-above =
        let b = body_rises t es vs w some n in
        let l = last_from (pos (to_nat t.start)) (body_of t es) in
        let a = above (to_nat l) t.end (ap (λ (z : ℤ). lt_z z t.end) (sym (last-natural (to_nat t.start) (body_of t es) b.0)) ∙ b.1) in
        (a.0, omega (arith, a.1, last-above (to_nat t.start) (body_of t es) b.0))

    pub length_is : t.end -ℤ t.start ≡ pos (length_of (window_runs t es vs))
    length_is =
        let a = end-above in
        difference_of a.0 w.natural (omega (arith, a.1)) ∙ ap pos (sym (counted-length t es vs w.paired (omega (arith, some)) w.inside))

    pub length-natural : t.end -ℤ t.start ≡ pos (to_nat (t.end -ℤ t.start))
    length-natural = length_is ∙ ap (λ (z : ℤ). pos (to_nat z)) (sym length_is)

    pub divisor_held : (ddof : ℤ) {d : ℤ} → d ≡ divisor_of (t.end -ℤ t.start) ddof → d ≡ pos (to_nat d)
    divisor_held ddof e = let q = e ∙ ap (λ (z : ℤ). divisor_of z ddof) length_is in rw q (divisor_natural (length_of (window_runs t es vs)) ddof)

    length_some : 0 < length_of (window_runs t es vs)
    length_some = rw (counted-length t es vs w.paired (omega (arith, some)) w.inside) (omega (arith, end-above.1))

    length-small : length_of (window_runs t es vs) < 2 ^ 63
    length-small = (rw length_is at w.fitting).sfits

    -- the mean
    module _ (total : Float) {x : Float} (ex : x ≡ div binary64 total (converted (t.end -ℤ t.start))) where
      pub mean-within : Within 180 total → Within 180 x
      mean-within k = rw (ex, length_is) (div-within binary64 180 total _ (lit≤ tt) k (converted-one length-small length_some))

      module _ (et : total ≡ fold_runs add_product plus_zero (to_nat t.start) (runs_of (window_ends t es) (window_values t vs))) where
        mean-is : x ≡ mean_of (window_runs t es vs)
        unfolding mean_of
        mean-is = ex ∙ ap₂ (div binary64) (et ∙ folds add_product plus_zero n) (ap converted length_is)

        pub mean-reduced : (ddof : ℤ) {code : ℕ} → code ≡ 1 → Within 180 total
            → ReducesWindow code ddof t es vs (record { runs = t.count; reduction = Fraction (record { mean = x; variance = x }) })
        unfolding reduction
        mean-reduced ddof {code} c k =
            let f = within-finite 180 x (mean-within k) in
            record {
              asked = all_asked;
              answer = λ _. rw (c, lt-ltb 0 (length_of (window_runs t es vs)) length_some, ← mean-is);
              finite = λ _. (f, f);
            }

        -- the variance around it
        pub variance-reduced : (ddof : ℤ) {code : ℕ} → (code ≡ 0 → ⊥) → (code ≡ 1 → ⊥) → (d : ℤ) → d ≡ divisor_of (t.end -ℤ t.start) ddof
            → (r : Reduction) → VarianceBy d t es vs x r → ReducesWindow code ddof t es vs (record { runs = t.count; reduction = r })
        unfolding reduction has_variance divisor_of variance_of
        variance-reduced ddof {code} c0 c1 d ed r v =
            let rs = window_runs t es vs in
            let left = pos (length_of rs) -ℤ ddof in
            let b = le_z (pos 1) left && lt_z left (pos (2 ^ 63)) in
            let ed' : d ≡ cond b left (pos 0) =
            ed ∙ ap (λ (z : ℤ). cond (le_z (pos 1) (z -ℤ ddof) && lt_z (z -ℤ ddof) (pos (2 ^ 63))) (z -ℤ ddof) (pos 0)) length_is in
            record {
              asked = all_asked;
              answer = λ _. rw (ne_eqb code 0 c0, ne_eqb code 1 c1, lt-ltb 0 (length_of rs) length_some) (by-test b
                  (λ y. let e : d ≡ left = ed' ∙ rw y in
                  let q = v.answer (λ z. not-zero left (both_true _ _ y).0 (sym e ∙ z)) in
                  rw (y, ← mean-is)
                  (q ∙ ap₂ (λ (a : Float) (z : ℤ). Fraction (record { mean = x; variance = div binary64 a (converted z) })) (folds (add_square x) plus_zero n) e))
                  (λ y. let e : d ≡ pos 0 = ed' ∙ rw y in rw y (v.none_by_zero e)));
              finite = λ _. v.finite;
            }

-- ---- the same by what the locals hold

module _ (t : TouchedRuns) (es vs : List ℤ) (w : Window t es vs) (some : t.count ≡ 0 → ⊥) (fs : SFits w64 t.start) (fe : SFits w64 t.end)
    {runs exact : ℕ} {total : Float} (p : ProductsOf t es vs runs total exact) (h : t.count ≤ runs) where
  abbrev span : ℤ
  span = held (held t.end -ℤ held t.start)

  all_rise : Rises t es vs w
  all_rise = all-rise t es vs w p.totalled.asked h

  span_is : span ≡ t.end -ℤ t.start
  span_is = rw (to_z-of_z fe, to_z-of_z fs) (to_z-of_z w.fitting)

  pub span-natural : span ≡ pos (to_nat span)
  span-natural = rw span_is (length-natural t es vs w some all_rise)

  module _ {q : Float} (eq : q ≡ converted span) where
    mean_held : div binary64 total q ≡ div binary64 total (converted (t.end -ℤ t.start))
    mean_held = ap (div binary64 total) (eq ∙ ap converted span_is)

    pub reduced-mean : (ddof : ℤ) {code : ℕ} → code ≡ 1 → ReducesWindow code ddof t es vs
        (record { runs = t.count; reduction = Fraction (record { mean = div binary64 total q; variance = div binary64 total q }) })
    reduced-mean ddof c =
        mean-reduced t es vs w some all_rise total mean_held (p.totalled.folded all_rise) ddof c p.totalled.kept

    module _ {ddof d : ℤ} (fo : SFits w64 ddof) (fd : mag d < 2 ^ 63) (ed : d ≡ divisor_of span (held ddof)) where
      by : held d ≡ divisor_of (t.end -ℤ t.start) ddof
      by = back d fd ∙ ed ∙ ap₂ divisor_of span_is (to_z-of_z fo)

      pub variable : Squarable t es vs (div binary64 total q) exact × (held d ≡ pos (to_nat (held d)))
      variable = (
        record {
          window = w;
          some = omega (arith, some);
          rising = all_rise;
          bounded = mean-within t es vs w some all_rise total mean_held p.totalled.kept;
          inside = p.inside;
          exactly = p.exactly;
        },
        divisor_held t es vs w some all_rise ddof by,
      )

      pub reduced-variance : {code : ℕ} → (code ≡ 0 → ⊥) → (code ≡ 1 → ⊥) → {r : Reduction} → VarianceBy (held d) t es vs (div binary64 total q) r
          → ReducesWindow code ddof t es vs (record { runs = t.count; reduction = r })
      reduced-variance c0 c1 {r} v =
          variance-reduced t es vs w some all_rise total mean_held (p.totalled.folded all_rise) ddof c0 c1 (held d) by r v
