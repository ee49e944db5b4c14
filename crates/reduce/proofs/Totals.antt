-- The runs of a window: all but the last stand in the sequence, the last ends where the window does.
-- Assumes nothing.
use Prim.Native.Nat.{ℕ, suc, ◌+◌, ◌-◌, ◌≤◌, ◌<◌, ◌^◌, zero-le}
use mathlib.Core.Bool.{true, false}
use Rattle.std.specs.Prelude.{None}
use mathlib.Core.List.{List, [], ◌∷◌, ◌++◌}
use mathlib.Core.Path.{◌≡◌, ap, sym, ◌∙◌}
use native.Mathlib.Omega.{arith}
use native.Mathlib.Nat.{zero-add}
use lib.IntN.{ℤ, pos, ◌-ℤ◌}
use lib.ListN.{length, get_or, take, drop, length-append, length-drop, get_or-append}
use lib.Seq.{take-suc, take_all, take-append-le, get_or-append-add, get_or-drop, length-take-le}
use lib.Signed.{mag, le_z, lt_z}
use mir.Syntax.{w64}
use mir.Val.{SFits}
use mir.Facts.{to_z-of_z}
use borrow.Author.Tests.{ne_eqb, le-leb, lt-leb}
use Rattle.column.specs.Asking.{Question, refusal}
use Rattle.column.specs.Questions.{ends_from}
use Rattle.column.specs.Runs.{to_nat, runs_of, last_from}
use Rattle.column.specs.Workers.{RisingEnds}
use Rattle.column.proofs.Ends.{from_check, rising-yes}
use Rattle.slice.specs.declared.inner.search.TouchedRuns.{TouchedRuns}
use Rattle.reduce.specs.Calls.{fold_runs, add_product, add_square, plus_zero}
use Rattle.float.specs.Float.{Within}
use lib.Ieee.{Float}
use Rattle.num.proofs.Bits.{back}
use Rattle.reduce.specs.Workers.{Walked, Stopped, add_wrapped, StoppedSum, WalkedSquares, AllProducts, AroundMean, Window, body_of, window_ends, window_values}
use Rattle.reduce.specs.Workers.{Totalled, SumOf, ProductsOf, Squarable, SquaresOf}
use Rattle.reduce.proofs.Terms.{product-kept, square_kept}
use Rattle.reduce.proofs.Walking.{held, held-fits, end_natural, rising-fits, rising-held, rising-small, walked_on, stopped-end, rising-front, rising_no}
use Rattle.num.proofs.Tests.{le_lt, lt_le}

-- as the code takes it out of the sequence
abbrev pub taken : TouchedRuns → List ℤ → List ℤ
taken t xs = take (t.first + (t.count - 1) - t.first) (drop t.first xs)

body_is : (t : TouchedRuns) (xs : List ℤ) → taken t xs ≡ body_of t xs
body_is t xs = let e : t.first + (t.count - 1) - t.first ≡ t.count - 1 = omega arith in rw e

body_long : (t : TouchedRuns) (xs : List ℤ) → t.first + t.count ≤ length xs → length (body_of t xs) ≡ t.count - 1
body_long t xs h = length-take-le (t.count - 1) (drop t.first xs) (rw length-drop (omega arith))

-- a walk over the front of lists is one over the lists
walked_more : {A : Type 0} {step : A → ℕ → ℤ → A} {P : A → Type 0} {first : A} {p : ℕ} {es vs : List ℤ} {i : ℕ} {end : ℤ} {total : A} (us ws : List ℤ)
    → Walked step P first p es vs i end total → length es ≡ length vs → Walked step P first p (es ++ us) (vs ++ ws) i end total
walked_more {es = es} {vs = vs} {i = i} us ws w l =
    let h = w.inside in
    let e : take i (es ++ us) ≡ take i es = take-append-le i es us h in
    let v : take i (vs ++ ws) ≡ take i vs = take-append-le i vs ws (omega arith) in
    record {
      inside = rw length-append (omega arith);
      rising = rw e w.rising;
      last = rw e w.last;
      folded = rw (e, v) w.folded;
      kept = w.kept;
    }

module _ (t : TouchedRuns) (es vs : List ℤ) (w : Window t es vs) where
  module _ (some : t.count ≡ 0 → ⊥) where
    ends_are : window_ends t es ≡ body_of t es ++ t.end ∷ []
    unfolding window_ends
    ends_are = rw (ne_eqb t.count 0 some)

    values-inside : t.first + t.count ≤ length vs
    values-inside = let h = w.inside in let l = w.paired in omega arith

    values_are : window_values t vs ≡ body_of t vs ++ get_or vs (t.first + (t.count - 1)) (pos 0) ∷ []
    unfolding window_values
    values_are =
        let c : t.count ≡ suc (t.count - 1) = omega (arith, some) in
        let f = drop t.first vs in
        ap (λ (n : ℕ). take n f) c
        ∙ take-suc f (t.count - 1) (pos 0) (rw length-drop (omega (arith, some, values-inside)))
        ∙ ap (λ (z : ℤ). take (t.count - 1) f ++ z ∷ []) (get_or-drop t.first vs (t.count - 1) (pos 0))

    bodies_paired : length (body_of t es) ≡ length (body_of t vs)
    bodies_paired = body_long t es w.inside ∙ sym (body_long t vs values-inside)

    from_start : ends_from 0 t.start (window_ends t es) ≡ ends_from 0 (pos (to_nat t.start)) (window_ends t es)
    from_start = ap (λ (z : ℤ). ends_from 0 z (window_ends t es)) w.natural

    ends-long : length (window_ends t es) ≡ t.count
    ends-long = rw (ends_are, length-append, body_long t es w.inside) (omega (arith, some))

    body_walked : {A : Type 0} {step : A → ℕ → ℤ → A} {P : A → Type 0} {first : A} {i : ℕ} {end : ℤ} {total : A}
        → Walked step P first (to_nat t.start) (body_of t es) (body_of t vs) i end total
        → Walked step P first (to_nat t.start) (window_ends t es) (window_values t vs) i end total
    body_walked k = rw (ends_are, values_are) (walked_more (t.end ∷ []) _ k bodies_paired)

    values-long : length (window_ends t es) ≡ length (window_values t vs)
    values-long = rw (ends_are, values_are, length-append) (simp length-append (ap (λ (n : ℕ). n + 1) bodies_paired))

    end_in_body : (i : ℕ) → i < t.count - 1 → get_or (window_ends t es) i (pos 0) ≡ get_or (body_of t es) i (pos 0)
    end_in_body i h = rw ends_are (get_or-append (body_of t es) (t.end ∷ []) (pos 0) i (rw (body_long t es w.inside) h))

    -- where the ends of all rise
    pub body_rises : ends_from 0 t.start (window_ends t es) ≡ None → RisingEnds (to_nat t.start) (body_of t es)
        × (lt_z (last_from (pos (to_nat t.start)) (body_of t es)) t.end ≡ true)
    body_rises n = rising-front (to_nat t.start) (body_of t es) t.end
        (rw ends_are at (from_check (to_nat t.start) 0 (window_ends t es) (sym from_start ∙ n)))

    last-end : (i : ℕ) → i ≡ t.count - 1 → get_or (window_ends t es) i (pos 0) ≡ t.end
    last-end i e =
        let l = body_long t es w.inside in
        let k : i ≡ length (body_of t es) + 0 = omega arith in
        rw (ends_are, k) (get_or-append-add (body_of t es) (t.end ∷ []) 0 (pos 0))

    last_value : (i : ℕ) → i ≡ t.count - 1 → get_or (window_values t vs) i (pos 0) ≡ get_or vs (t.first + (t.count - 1)) (pos 0)
    last_value i e =
        let l = body_long t vs values-inside in
        let k : i ≡ length (body_of t vs) + 0 = omega arith in
        rw (values_are, k) (get_or-append-add (body_of t vs) _ 0 (pos 0))

    module _ {A : Type 0} {step : A → ℕ → ℤ → A} {P : A → Type 0} {first : A} {i : ℕ} {end : ℤ} {total : A}
        (k : Walked step P first (to_nat t.start) (window_ends t es) (window_values t vs) i end total) where
      -- the walk came to an end that does not rise
      total-refused : i < t.count → lt_z end (get_or (window_ends t es) i (pos 0)) ≡ false → Totalled step P first t es vs i total
      total-refused h g =
          let q : ends_from 0 t.start (window_ends t es) ≡ refusal 4 (pos i ∷ []) =
          from_start ∙ rising_no 0 (to_nat t.start) (window_ends t es) i k.rising (rw ends-long h) (rw (← k.last) g)
          ∙ ap (λ (n : ℕ). refusal 4 (pos n ∷ [])) (zero-add i) in
          record {
            asked = q ∙ sym (rw (lt-leb t.count i h));
            folded = λ e. absurd (let z : ◌≡◌ {A = Question} (refusal 4 (pos i ∷ [])) None = sym q ∙ e in let x : ◌≡◌ {A = ℕ} 0 1 = cc in omega arith);
            kept = k.kept;
          }

      -- or to the end of the window
      total-passed : i ≡ t.count → Totalled step P first t es vs t.count total
      total-passed e =
          let a : take i (window_ends t es) ≡ window_ends t es = take_all i (window_ends t es) (rw ends-long (omega arith)) in
          let b : take i (window_values t vs) ≡ window_values t vs = take_all i (window_values t vs) (rw (← values-long, ends-long) (omega arith)) in
          record {
            asked = from_start ∙ rising-yes 0 (to_nat t.start) (window_ends t es) (rw a at k.rising)
                ∙ sym (rw (le-leb t.count t.count (omega arith)));
            folded = λ n. rw (a, b) at k.folded;
            kept = k.kept;
          }

    -- ---- the walk over the body, as the code does it, and the last run

    module _ (fs : SFits w64 t.start) where
      pub body-walkable : (length (taken t es) ≡ length (taken t vs)) × (held t.start ≡ pos (to_nat (held t.start)))
      body-walkable = rw (to_z-of_z fs, body_is t es, body_is t vs) (bodies_paired, w.natural)

      module _ {A : Type 0} {step : A → ℕ → ℤ → A} {P : A → Type 0} {first : A} {i : ℕ} {before : ℤ} {total : A}
          (k : Stopped step P first (to_nat (held t.start)) (taken t es) (taken t vs) i before total) where
        body : Stopped step P first (to_nat t.start) (body_of t es) (body_of t vs) i before total
        body = rw (to_z-of_z fs, body_is t es, body_is t vs) at k

        walk : Walked step P first (to_nat t.start) (window_ends t es) (window_values t vs) i before total
        walk = body_walked body.walked

        -- it came to an end that does not rise
        pub total-short : i < t.count - 1 → Totalled step P first t es vs i total
        total-short h = total-refused walk (omega arith) (rw (end_in_body i h) (body.stopped (rw (body_long t es w.inside) h)))

        -- or to all runs but the last
        module _ (h : t.count - 1 ≤ i) (fe : SFits w64 t.end) (fb : SFits w64 before) where
          last_one : i ≡ t.count - 1
          last_one = omega (arith, body.walked.inside, body_long t es w.inside)

          pub total-cut : le_z (held t.end) (held before) ≡ true → Totalled step P first t es vs i total
          total-cut g =
              total-refused walk (omega (arith, last_one, some))
              (rw (last-end i last_one) (le_lt t.end before (rw (to_z-of_z fe, to_z-of_z fb) at g)))

          module _ (g : le_z (held t.end) (held before) ≡ false) where
            walk_held : Walked step P first (to_nat t.start) (window_ends t es) (window_values t vs) i (held before) total
            walk_held = rw (to_z-of_z fb) walk

            pub last_fits : SFits w64 (held t.end -ℤ held before)
            last_fits = rising-fits (end_natural walk_held) (held-fits fe) (le_lt (held t.end) (held before) g)

            pub last-held : held (held t.end -ℤ held before) ≡ pos (to_nat (held (held t.end -ℤ held before)))
            last-held = rising-held (end_natural walk_held) (held-fits fe) (le_lt (held t.end) (held before) g)

            last_small : SFits w64 (pos (to_nat (held (held t.end -ℤ held before))))
            last_small = rising-small (end_natural walk_held) (held-fits fe) (le_lt (held t.end) (held before) g)

            pub total-last : SFits w64 (get_or vs (t.first + (t.count - 1)) (pos 0)) → {x : A}
                → x ≡ step total (to_nat (held (held t.end -ℤ held before))) (held (get_or vs (t.first + (t.count - 1)) (pos 0))) → P x
                → Totalled step P first t es vs t.count x
            total-last fv ex kx =
                let j : i + 1 ≡ t.count = omega (arith, last_one, some) in
                total-passed (walked_on walk_held (held t.end) (held (get_or vs (t.first + (t.count - 1)) (pos 0))) (held-fits fe)
                (le_lt (held t.end) (held before) g)
                values-long (rw ends-long (omega arith)) (to_z-of_z fe ∙ sym (last-end i last_one)) (to_z-of_z fv ∙ sym (last_value i last_one)) ex kx) j

  -- a window of no run
  pub total-none : {A : Type 0} {step : A → ℕ → ℤ → A} {P : A → Type 0} {first : A} → t.count ≡ 0 → P first → Totalled step P first t es vs 0 first
  unfolding window_ends window_values ends_from runs_of fold_runs
  total-none e k = record { asked = rw e; folded = λ n. rw e; kept = k }

-- ---- a sum, the products and the squares of a window

module _ (t : TouchedRuns) (es vs : List ℤ) (w : Window t es vs) (some : t.count ≡ 0 → ⊥) (fs : SFits w64 t.start) where
  module _ {i : ℕ} {before total : ℤ} (k : StoppedSum (to_nat (held t.start)) (taken t es) (taken t vs) i before total) (h : t.count - 1 ≤ i)
      (fe : SFits w64 t.end) (fb : SFits w64 before) (g : le_z (held t.end) (held before) ≡ false) where
    pub sum-last : SFits w64 (get_or vs (t.first + (t.count - 1)) (pos 0)) → SFits w64 total → {x : ℤ} → mag x < 2 ^ 63
        → x ≡ add_wrapped (held total) (to_nat (held (held t.end -ℤ held before))) (held (get_or vs (t.first + (t.count - 1)) (pos 0)))
        → SumOf t es vs t.count (held x)
    sum-last fv ft {x} fx ex = total-last t es vs w some fs k h fe fb g fv (back x fx ∙ rw (to_z-of_z ft) at ex) tt

  module _ {i : ℕ} {before : ℤ} {total : Float} {exact : ℕ} (k : AllProducts (to_nat (held t.start)) (taken t es) (taken t vs) i before total exact) where
    with-exact : {runs : ℕ} {x : Float} → Totalled add_product (Within 180) plus_zero t es vs runs x → ProductsOf t es vs runs x exact
    with-exact s =
        let b : AllProducts (to_nat t.start) (body_of t es) (body_of t vs) i before total exact = rw (to_z-of_z fs, body_is t es, body_is t vs) at k in
        record { totalled = s; inside = rw (body_long t es w.inside) at b.inside; exactly = b.exactly }

    pub products-short : i < t.count - 1 → ProductsOf t es vs i total exact
    products-short h = with-exact (total-short t es vs w some fs k.stopped h)

    module _ (h : t.count - 1 ≤ i) (fe : SFits w64 t.end) (fb : SFits w64 before) where
      pub products-cut : le_z (held t.end) (held before) ≡ true → ProductsOf t es vs i total exact
      products-cut g = with-exact (total-cut t es vs w some fs k.stopped h fe fb g)

      pub products-last : le_z (held t.end) (held before) ≡ false → SFits w64 (get_or vs (t.first + (t.count - 1)) (pos 0)) → {x : Float}
          → x ≡ add_product total (to_nat (held (held t.end -ℤ held before))) (held (get_or vs (t.first + (t.count - 1)) (pos 0)))
          → ProductsOf t es vs t.count x exact
      products-last g fv ex =
          with-exact (total-last t es vs w some fs k.stopped h fe fb g fv ex
          (rw ex (product-kept total _ _ k.stopped.walked.kept (last_small t es vs w some fs k.stopped h fe fb g) (held-fits fv))))

pub products-none : {t : TouchedRuns} {es vs : List ℤ} → Window t es vs → t.count ≡ 0 → ProductsOf t es vs 0 plus_zero 0
products-none {t} {es} {vs} w e = record {
  totalled = total-none t es vs w e zero-le;
  inside = omega arith;
  exactly = λ j h. let z : ⊥ = omega arith in absurd z;
}

module _ {t : TouchedRuns} {es vs : List ℤ} {mean : Float} {exact : ℕ} (q : Squarable t es vs mean exact) (fs : SFits w64 t.start) where
  runs_some : t.count ≡ 0 → ⊥
  runs_some e = let h = q.some in omega arith

  rises : RisingEnds (to_nat t.start) (body_of t es) × (lt_z (last_from (pos (to_nat t.start)) (body_of t es)) t.end ≡ true)
  rises = body_rises t es vs q.window runs_some q.rising

  pub squares-around : (held t.start ≡ pos (to_nat (held t.start))) × AroundMean (to_nat (held t.start)) (taken t es) (taken t vs) mean exact
  squares-around =
      let a : AroundMean (to_nat t.start) (body_of t es) (body_of t vs) mean exact = record {
        paired = bodies_paired t es vs q.window runs_some;
        rising = rises.0;
        bounded = q.bounded;
        inside = rw (body_long t es q.window.inside) q.inside;
        exactly = q.exactly;
      } in
      rw (to_z-of_z fs, body_is t es, body_is t vs) (q.window.natural, a)

  module _ {end : ℤ} {total : Float} (k : WalkedSquares mean (to_nat (held t.start)) (taken t es) (taken t vs) (length (taken t es)) end total)
      (fe : SFits w64 t.end) (fb : SFits w64 end) where
    stopped : Stopped (add_square mean) (Within 480) plus_zero (to_nat (held t.start)) (taken t es) (taken t vs) (length (taken t es)) end total
    stopped = stopped-end k (omega arith)

    all_but_last : t.count - 1 ≤ length (taken t es)
    all_but_last = rw body_is (omega (arith, body_long t es q.window.inside))

    -- the last end rises
    last-rises : le_z (held t.end) (held end) ≡ false
    last-rises =
        let b = body_of t es in
        let body : WalkedSquares mean (to_nat t.start) b (body_of t vs) (length b) end total = rw (to_z-of_z fs, body_is t es, body_is t vs) at k in
        let r : lt_z end t.end ≡ true = rw (body.last, take_all (length b) b (omega arith)) rises.1 in
        rw (to_z-of_z fe, to_z-of_z fb) (lt_le end t.end r)

    pub square_last_fits : SFits w64 (held t.end -ℤ held end)
    square_last_fits = last_fits t es vs q.window runs_some fs stopped all_but_last fe fb last-rises

    pub square_last-held : held (held t.end -ℤ held end) ≡ pos (to_nat (held (held t.end -ℤ held end)))
    square_last-held = last-held t es vs q.window runs_some fs stopped all_but_last fe fb last-rises

    pub squares-last : SFits w64 (get_or vs (t.first + (t.count - 1)) (pos 0)) → {x : Float}
        → x ≡ add_square mean total (to_nat (held (held t.end -ℤ held end))) (held (get_or vs (t.first + (t.count - 1)) (pos 0)))
        → SquaresOf mean t es vs x
    squares-last fv ex =
        let small = last_small t es vs q.window runs_some fs stopped all_but_last fe fb last-rises in
        let s = total-last t es vs q.window runs_some fs stopped all_but_last fe fb last-rises fv ex
        (rw ex (square_kept total _ _ mean q.bounded k.kept small (held-fits fv))) in
        record { folded = s.folded q.rising; kept = s.kept }
