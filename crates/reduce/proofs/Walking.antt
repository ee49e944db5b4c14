-- Runs passed one after another: the first of them, one more, and where no more end rises.
-- Assumes nothing.
use Prim.Native.Nat.{ℕ, zero, suc, ◌+◌, ◌-◌, ◌≤◌, ◌<◌, ◌^◌}
use mathlib.Core.Bool.{true, false, ◌&&◌}
use mathlib.Core.List.{List, [], ◌∷◌, ◌++◌}
use mathlib.Core.Path.{◌≡◌, refl, ap, ap₂, sym, ◌∙◌}
use native.Mathlib.Numerals.{add-one}
use native.Mathlib.Omega.{arith}
use lib.Dec.{ltb}
use lib.IntN.{ℤ, pos, negsuc, nat_abs, ◌-ℤ◌}
use lib.Ieee.{Float}
use lib.ListN.{length, get_or, take}
use lib.Seq.{take-suc, length-take-le}
use lib.Signed.{le_z, lt_z, mag}
use mir.Syntax.{w64}
use mir.Val.{SFits, to_z, of_z}
use mir.Facts.{to_z-of_z}
use borrow.Author.Tests.{ltb-true, ltb-false, lt-ltb}
use Rattle.num.proofs.Bits.{back}
use Rattle.num.proofs.Tests.{by-test, le_lt, both_true}
use Rattle.column.specs.Asking.{refusal}
use Rattle.column.specs.Questions.{ends_from}
use Rattle.column.specs.Runs.{to_nat, runs_of, last_from}
use Rattle.column.specs.Workers.{RisingEnds}
use Rattle.num.proofs.Difference.{difference_of, difference-fits}
use Rattle.reduce.specs.Calls.{fold_runs, add_product, add_square}
use Rattle.reduce.specs.Workers.{Walked, Stopped, add_wrapped, WalkedSum, WalkedProducts, WalkedSquares, ExactRun, ExactUpTo, ExactProducts, AroundMean}
use Rattle.reduce.proofs.Terms.{product-kept, square_kept}

-- ---- a number as a local holds it, and an entry

abbrev pub held : ℤ → ℤ
held z = to_z w64 (of_z w64 z)

abbrev pub held_at : List ℤ → ℕ → ℤ
held_at xs i = held (get_or xs i (pos 0))

pub held-fits : {z : ℤ} → SFits w64 z → SFits w64 (held z)
held-fits f = rw (to_z-of_z f) f

-- ---- one end more after ends that rise

pub above : (p : ℕ) (e : ℤ) → lt_z (pos p) e ≡ true → (e ≡ pos (to_nat e)) × (p < to_nat e)
above p (pos n) h = (refl, ltb-true p n h)
above p (negsuc n) h = absurd (let z : ◌≡◌ {A = ℕ} 0 1 = cc in omega arith)

pub last-natural : (p : ℕ) (xs : List ℤ) → RisingEnds p xs → last_from (pos p) xs ≡ pos (to_nat (last_from (pos p) xs))
last-natural p [] r = refl
last-natural p (pos x ∷ xs) r = last-natural x xs r.2
last-natural p (negsuc x ∷ xs) r = absurd (let z : ◌≡◌ {A = ℕ} 0 1 = cc in omega arith)

pub last-above : (p : ℕ) (xs : List ℤ) → RisingEnds p xs → p ≤ to_nat (last_from (pos p) xs)
last-above p [] r = omega arith
last-above p (pos x ∷ xs) r = omega (arith, last-above x xs r.2, r.1)
last-above p (negsuc x ∷ xs) r = absurd (let z : ◌≡◌ {A = ℕ} 0 1 = cc in omega arith)

pub last-after : (p : ℤ) (xs : List ℤ) (e : ℤ) → last_from p (xs ++ e ∷ []) ≡ e
last-after p [] e = refl
last-after p (x ∷ xs) e = last-after x xs e

pub rising-after : (p : ℕ) (xs : List ℤ) (e : ℤ) → RisingEnds p xs → lt_z (last_from (pos p) xs) e ≡ true → RisingEnds p (xs ++ e ∷ [])
rising-after p [] e r h = let a = above p e h in (a.0, a.1, tt)
rising-after p (pos x ∷ xs) e r h = (r.0, r.1, rising-after x xs e r.2 h)
rising-after p (negsuc x ∷ xs) e r h = absurd (let z : ◌≡◌ {A = ℕ} 0 1 = cc in omega arith)

pub rising-front : (p : ℕ) (xs : List ℤ) (e : ℤ) → RisingEnds p (xs ++ e ∷ []) → RisingEnds p xs × (lt_z (last_from (pos p) xs) e ≡ true)
rising-front p [] (pos e) r = (tt, lt-ltb p e r.1)
rising-front p [] (negsuc e) r = absurd (let z : ◌≡◌ {A = ℕ} 0 1 = cc in omega arith)
rising-front p (pos x ∷ xs) e r = let f = rising-front x xs e r.2 in ((r.0, r.1, f.0), f.1)
rising-front p (negsuc x ∷ xs) e r = absurd (let z : ◌≡◌ {A = ℕ} 0 1 = cc in omega arith)

pub fold_after : {A : Type 0} (step : A → ℕ → ℤ → A) (a : A) (p : ℕ) (xs ys : List ℤ) (e v : ℤ) → RisingEnds p xs → length xs ≡ length ys
    → fold_runs step a p (runs_of (xs ++ e ∷ []) (ys ++ v ∷ [])) ≡ step (fold_runs step a p (runs_of xs ys)) (to_nat e - to_nat (last_from (pos p) xs)) v
unfolding fold_runs runs_of
fold_after step a p [] [] e v r l = refl
fold_after step a p [] (y ∷ ys) e v r l = let z : ⊥ = omega arith in absurd z
fold_after step a p (x ∷ xs) [] e v r l = let z : ⊥ = omega arith in absurd z
fold_after step a p (pos x ∷ xs) (y ∷ ys) e v r l = fold_after step (step a (x - p) y) x xs ys e v r.2 (omega arith)
fold_after step a p (negsuc x ∷ xs) (y ∷ ys) e v r l = absurd (let z : ◌≡◌ {A = ℕ} 0 1 = cc in omega arith)

-- ---- a run whose end rises

module _ {end : ℤ} (n : end ≡ pos (to_nat end)) {e : ℤ} (f : SFits w64 e) (g : lt_z end e ≡ true) where
  rises : (e ≡ pos (to_nat e)) × (to_nat end < to_nat e)
  rises = above (to_nat end) e (rw n at g)

  pub run_is : e -ℤ end ≡ pos (to_nat e - to_nat end)
  run_is = difference_of rises.0 n (omega (arith, rises.1))

  pub rising-fits : SFits w64 (e -ℤ end)
  rising-fits = difference-fits rises.0 n (omega (arith, rises.1)) (rw rises.0 at f.sfits)

  pub rising-held : held (e -ℤ end) ≡ pos (to_nat (held (e -ℤ end)))
  rising-held = rw (to_z-of_z rising-fits) (run_is ∙ ap (λ (z : ℤ). pos (to_nat z)) (sym run_is))

  pub rising-small : SFits w64 (pos (to_nat (held (e -ℤ end))))
  rising-small = rw (← rising-held) (held-fits rising-fits)

-- ---- question 4 of them

-- the first k rise, and the next does not
pub rising_no : (i p : ℕ) (es : List ℤ) (k : ℕ) → RisingEnds p (take k es) → k < length es → lt_z (last_from (pos p) (take k es)) (get_or es k (pos 0)) ≡ false
    → ends_from i (pos p) es ≡ refusal 4 (pos (i + k) ∷ [])
unfolding ends_from
rising_no i p [] k r h n = let z : ⊥ = omega arith in absurd z
rising_no i p (e ∷ es) zero r h n = let k : i + 0 ≡ i = omega arith in rw (n, k)
rising_no i p (pos e ∷ es) (suc k) r h n =
    let j : i + suc k ≡ suc i + k = omega arith in
    rw (lt-ltb p e r.1, rising_no (suc i) e es k r.2 (omega arith) n, j)
rising_no i p (negsuc e ∷ es) (suc k) r h n = absurd (let z : ◌≡◌ {A = ℕ} 0 1 = cc in omega arith)

-- ---- a walk

module _ {A : Type 0} (step : A → ℕ → ℤ → A) (P : A → Type 0) (first : A) (p : ℕ) (es vs : List ℤ) where
  pub walked_start : P first → {start : ℤ} → start ≡ pos p → Walked step P first p es vs 0 start first
  unfolding fold_runs runs_of
  walked_start k s = record { inside = omega arith; rising = tt; last = s; folded = refl; kept = k }

module _ {A : Type 0} {step : A → ℕ → ℤ → A} {P : A → Type 0} {first : A} {p : ℕ} {es vs : List ℤ} {i : ℕ} {end : ℤ} {total : A}
    (w : Walked step P first p es vs i end total) where
  pub end_natural : end ≡ pos (to_nat end)
  end_natural = rw w.last (last-natural p (take i es) w.rising)

  -- one run more, whose end rises
  pub walked_on : (e v : ℤ) → SFits w64 e → lt_z end e ≡ true → length es ≡ length vs → i < length es → e ≡ get_or es i (pos 0) → v ≡ get_or vs i (pos 0)
      → {t : A} → t ≡ step total (to_nat (held (e -ℤ end))) v → P t → Walked step P first p es vs (i + 1) e t
  walked_on e v fe g l h ee ev {t} et k =
      let ends : take (i + 1) es ≡ take i es ++ e ∷ [] = rw (add-one i, take-suc es i (pos 0), ee) in
      let values : take (i + 1) vs ≡ take i vs ++ v ∷ [] = rw (add-one i, take-suc vs i (pos 0) (omega arith), ev) in
      let g' : lt_z (last_from (pos p) (take i es)) e ≡ true = rw (← w.last) g in
      let long : length (take i es) ≡ length (take i vs) = length-take-le i es (omega arith) ∙ sym (length-take-le i vs (omega arith)) in
      let m : to_nat (held (e -ℤ end)) ≡ to_nat e - to_nat (last_from (pos p) (take i es)) =
      ap to_nat (to_z-of_z (rising-fits end_natural fe g) ∙ run_is end_natural fe g) ∙ ap (λ (z : ℤ). to_nat e - to_nat z) w.last in
      let one = fold_after step first p (take i es) (take i vs) e v w.rising long in
      record {
        inside = omega arith;
        rising = rw ends (rising-after p (take i es) e w.rising g');
        last = rw ends (sym (last-after (pos p) (take i es) e));
        folded = et ∙ ap₂ (λ (a : A) (n : ℕ). step a n v) w.folded m ∙ sym (rw (ends, values) one);
        kept = k;
      }

  -- the next run as the locals hold it
  module _ (fe : SFits w64 (get_or es i (pos 0))) (g : lt_z end (held_at es i) ≡ true) where
    abbrev pub run : ℕ
    run = to_nat (held (held_at es i -ℤ end))

    pub run_fits : SFits w64 (held_at es i -ℤ end)
    run_fits = rising-fits end_natural (held-fits fe) g

    pub run-held : held (held_at es i -ℤ end) ≡ pos run
    run-held = rising-held end_natural (held-fits fe) g

    pub run_small : SFits w64 (pos run)
    run_small = rising-small end_natural (held-fits fe) g

    pub walked_next : length es ≡ length vs → i < length es → SFits w64 (get_or vs i (pos 0)) → {t : A} → t ≡ step total run (held_at vs i) → P t
        → Walked step P first p es vs (i + 1) (held_at es i) t
    walked_next l h fv et k = walked_on (held_at es i) (held_at vs i) (held-fits fe) g l h (to_z-of_z fe) (to_z-of_z fv) et k

  -- by the test of the code
  module _ (fe : SFits w64 (get_or es i (pos 0))) (g : le_z (held_at es i) end ≡ false) where
    pub past : lt_z end (held_at es i) ≡ true
    past = le_lt (held_at es i) end g

    pub past-fits : SFits w64 (held_at es i -ℤ end)
    past-fits = run_fits fe past

    pub past-held : held (held_at es i -ℤ end) ≡ pos (to_nat (held (held_at es i -ℤ end)))
    past-held = run-held fe past

  pub stopped-end : length es ≤ i → Stopped step P first p es vs i end total
  stopped-end h = record { walked = w; stopped = λ k. let z : ⊥ = omega arith in absurd z }

-- ---- sums: one run, and two at each turn

module _ {p : ℕ} {es vs : List ℤ} {i : ℕ} {end total : ℤ} (w : WalkedSum p es vs i end total) (l : length es ≡ length vs) where
  pub sum_next : (fe : SFits w64 (get_or es i (pos 0))) → le_z (held_at es i) end ≡ false → i < length es → SFits w64 (get_or vs i (pos 0)) → {t : ℤ}
      → mag t < 2 ^ 63 → t ≡ add_wrapped total (to_nat (held (held_at es i -ℤ end))) (held_at vs i) → WalkedSum p es vs (i + 1) (held_at es i) (held t)
  sum_next fe g h fv {t} ft et = walked_next w fe (past w fe g) l h fv (back t ft ∙ et) tt

  module _ (h : i + 1 < length es) (f1 : SFits w64 (get_or es i (pos 0))) (f2 : SFits w64 (get_or es (i + 1) (pos 0)))
      (g : lt_z end (held_at es i) && lt_z (held_at es i) (held_at es (i + 1)) ≡ true) where
    both : (lt_z end (held_at es i) ≡ true) × (lt_z (held_at es i) (held_at es (i + 1)) ≡ true)
    both = both_true _ _ g

    pub first_fits : SFits w64 (held_at es i -ℤ end)
    first_fits = run_fits w f1 both.0

    pub first-held : held (held_at es i -ℤ end) ≡ pos (to_nat (held (held_at es i -ℤ end)))
    first-held = run-held w f1 both.0

    module _ (v1 : SFits w64 (get_or vs i (pos 0))) {one : ℤ} (fo : mag one < 2 ^ 63)
        (eo : one ≡ add_wrapped total (to_nat (held (held_at es i -ℤ end))) (held_at vs i)) where
      first_run : WalkedSum p es vs (i + 1) (held_at es i) (held one)
      first_run = walked_next w f1 both.0 l (omega arith) v1 (back one fo ∙ eo) tt

      pub second_fits : SFits w64 (held_at es (i + 1) -ℤ held_at es i)
      second_fits = run_fits first_run f2 both.1

      pub second-held : held (held_at es (i + 1) -ℤ held_at es i) ≡ pos (to_nat (held (held_at es (i + 1) -ℤ held_at es i)))
      second-held = run-held first_run f2 both.1

      pub pair_next : SFits w64 (get_or vs (i + 1) (pos 0)) → {t : ℤ} → mag t < 2 ^ 63
          → t ≡ add_wrapped (held one) (to_nat (held (held_at es (i + 1) -ℤ held_at es i))) (held_at vs (i + 1))
          → {k : ℕ} → k ≡ i + 2 → WalkedSum p es vs k (held_at es (i + 1)) (held t)
      pair_next v2 {t} ft et {k} ek =
          let e : k ≡ i + 1 + 1 = omega arith in
          rw e (walked_next first_run f2 both.1 l h v2 (back t ft ∙ et) tt)

-- ---- products

pub product_next : {p : ℕ} {es vs : List ℤ} {i : ℕ} {end : ℤ} {total : Float} (w : WalkedProducts p es vs i end total) → length es ≡ length vs
    → SFits w64 (get_or es i (pos 0)) → lt_z end (held_at es i) ≡ true → i < length es → SFits w64 (get_or vs i (pos 0)) → {t : Float}
    → t ≡ add_product total (to_nat (held (held_at es i -ℤ end))) (held_at vs i) → WalkedProducts p es vs (i + 1) (held_at es i) t
product_next {vs = vs} {i} {total = total} w l fe g h fv et =
    walked_next w fe g l h fv et (rw et (product-kept total _ (held_at vs i) w.kept (run_small w fe g) (held-fits fv)))

-- ---- runs that are converted with nothing rounded

pub rising_at : (p : ℕ) (es : List ℤ) (i : ℕ) → RisingEnds p es → i < length es → lt_z (last_from (pos p) (take i es)) (get_or es i (pos 0)) ≡ true
rising_at p [] i r h = let z : ⊥ = omega arith in absurd z
rising_at p (pos e ∷ es) zero r h = lt-ltb p e r.1
rising_at p (pos e ∷ es) (suc i) r h = rising_at e es i r.2 (omega arith)
rising_at p (negsuc e ∷ es) i r h = absurd (let z : ◌≡◌ {A = ℕ} 0 1 = cc in omega arith)

-- a run and a value of which nothing is rounded, as a step takes them
abbrev pub Exactly : ℤ → ℤ → Type 0
Exactly run value = (run ≡ pos (to_nat run)) × (nat_abs run ≤ 2 ^ 53) × (nat_abs value ≤ 2 ^ 53)

module _ {A : Type 0} {step : A → ℕ → ℤ → A} {P : A → Type 0} {first : A} {p : ℕ} {es vs : List ℤ} {i : ℕ} {end : ℤ} {total : A}
    (w : Walked step P first p es vs i end total) (fe : SFits w64 (get_or es i (pos 0))) (r : ExactRun end (held_at es i) (held_at vs i)) where
  pub exactly_held : Exactly (held (held_at es i -ℤ end)) (held_at vs i)
  exactly_held = (run-held w fe r.rises, rw (to_z-of_z (run_fits w fe r.rises)) r.short, r.small)

module _ {p : ℕ} {es vs : List ℤ} {i : ℕ} {end : ℤ} {total : Float} (x : ExactProducts p es vs i end total) (fe : SFits w64 (get_or es i (pos 0)))
    (r : ExactRun end (held_at es i) (held_at vs i)) where
  exact_to : SFits w64 (get_or vs i (pos 0)) → ExactUpTo (i + 1) p es vs
  exact_to fv j h =
      by-test (ltb j i)
      (λ t. x.exact j (ltb-true j i t))
      (λ t. let k : j ≡ i = omega (arith, ltb-false j i t) in rw (k, ← x.walked.last, ← to_z-of_z fe, ← to_z-of_z fv) r)

  pub exact_next : length es ≡ length vs → i < length es → SFits w64 (get_or vs i (pos 0)) → {t : Float}
      → t ≡ add_product total (to_nat (held (held_at es i -ℤ end))) (held_at vs i) → ExactProducts p es vs (i + 1) (held_at es i) t
  exact_next l h fv et = record { walked = product_next x.walked l fe r.rises h fv et; exact = exact_to fv }

-- ---- the squares of runs whose ends are known to rise

module _ {start : ℤ} (fs : SFits w64 start) {es vs : List ℤ} {mean : Float} {exact i : ℕ} {end : ℤ} {total : Float}
    (w : WalkedSquares mean (to_nat (held start)) es vs i end total) (around : AroundMean (to_nat start) es vs mean exact) (h : i < length es)
    (fe : SFits w64 (get_or es i (pos 0))) where
  m : AroundMean (to_nat (held start)) es vs mean exact
  m = rw (to_z-of_z fs) around

  square_rises : lt_z end (held_at es i) ≡ true
  square_rises = rw (w.last, to_z-of_z fe) (rising_at (to_nat (held start)) es i m.rising h)

  pub square_fits : SFits w64 (held_at es i -ℤ end)
  square_fits = run_fits w fe square_rises

  pub square-held : held (held_at es i -ℤ end) ≡ pos (to_nat (held (held_at es i -ℤ end)))
  square-held = run-held w fe square_rises

  module _ (fv : SFits w64 (get_or vs i (pos 0))) where
    pub square_exactly : i < exact → Exactly (held (held_at es i -ℤ end)) (held_at vs i)
    square_exactly k = exactly_held w fe (rw (w.last, to_z-of_z fe, to_z-of_z fv) (m.exactly i k))

    pub square_next : {t : Float} → t ≡ add_square mean total (to_nat (held (held_at es i -ℤ end))) (held_at vs i)
        → WalkedSquares mean (to_nat (held start)) es vs (i + 1) (held_at es i) t
    square_next et =
        walked_next w fe square_rises m.paired h fv et
        (rw et (square_kept total _ (held_at vs i) mean m.bounded w.kept (run_small w fe square_rises) (held-fits fv)))
