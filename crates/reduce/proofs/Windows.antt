-- The runs that a slice touches are a window whose ends rise and whose runs are those of the slice, and so is a whole column; a walk from the start of
-- a window on is one over runs counted from there.
-- Assumes nothing.
use Prim.Native.Nat.{ℕ, suc, ◌+◌, ◌-◌, ◌≤◌, ◌<◌, ◌^◌, min}
use mathlib.Core.Bool.{false}
use Rattle.std.specs.Prelude.{None}
use mathlib.Core.List.{List, [], ◌∷◌, ◌++◌}
use mathlib.Core.Path.{◌≡◌, refl, ap, ap₂, ◌∙◌}
use native.Mathlib.Omega.{arith}
use lib.Dec.{eqb, leb, ltb}
use lib.IntN.{ℤ, pos, negsuc, +ℤ_idr}
use lib.ListN.{length, take, drop, length-drop}
use lib.Seq.{take_all, length-take-le}
use lib.Signed.{mag}
use mir.Syntax.{w64}
use mir.Val.{SFits}
use borrow.Author.Tests.{leb-false, ltb-true, ltb-false, le-leb, lt-leb, eq-eqb, ne_eqb}
use Rattle.num.proofs.Tests.{by-test}
use Rattle.column.specs.Questions.{ends_from, ends_valid}
use Rattle.column.specs.Runs.{Runs, to_nat, runs_of, last_end, length_of, last_from, length_of_ends}
use Rattle.column.specs.Workers.{RisingEnds}
use Rattle.column.proofs.Ends.{rising, rising-yes, length_of-ends}
use Rattle.column.proofs.Rising.{Rising}
use Rattle.slice.specs.declared.inner.search.TouchedRuns.{TouchedRuns}
use Rattle.slice.specs.Calls.{first_where, first_end_above, cut, slice_runs}
use Rattle.slice.specs.Workers.{first_end_at_least, touched_by}
use Rattle.num.proofs.Difference.{difference-fits}
use Rattle.slice.proofs.Touching.{count-inside, rising-lower}
use Rattle.reduce.specs.Calls.{fold_runs}
use Rattle.reduce.specs.Workers.{Window, whole_of, window_ends, window_values, window_runs, counted_from}

-- ---- the touched runs are a window

pub window_of : (start end : ℤ) (es vs : List ℤ) → ends_valid es ≡ None → length es ≡ length vs → mag (touched_by start end es).end < 2 ^ 63
    → Window (touched_by start end es) es vs
unfolding touched_by
window_of start end es vs v l f =
    let x = to_nat start in
    let y = min (to_nat end) (to_nat (length_of_ends es)) in
    by-test (ltb x y)
    (λ t. let h = ltb-true x y t in
    rw t (record {
      paired = l;
      inside = count-inside es v x y h (omega arith);
      natural = refl;
      fitting = difference-fits {a = y} {b = x} refl refl (omega arith) (rw t at f);
    }))
    (λ t. rw t (record { paired = l; inside = omega arith; natural = refl; fitting = record { sfits = omega arith } }))

-- ---- its ends rise

rising-above : (x p : ℕ) (es : List ℤ) → RisingEnds p es → RisingEnds x (drop (first_end_above (pos x) es) es)
unfolding first_end_above first_where
rising-above x p [] r = tt
rising-above x p (pos e ∷ es) r = by-test (ltb x e) (λ t. rw t (refl, ltb-true x e t, r.2)) (λ t. rw t (rising-above x e es r.2))
rising-above x p (negsuc e ∷ es) r = absurd (let z : ◌≡◌ {A = ℕ} 0 1 = cc in omega arith)

rising_up : (x y : ℕ) (es : List ℤ) → RisingEnds x es → x < y → RisingEnds x (take (first_end_at_least (pos y) es) es ++ pos y ∷ [])
unfolding first_end_at_least first_where
rising_up x y [] r h = (refl, h, tt)
rising_up x y (pos e ∷ es) r h = by-test (leb y e) (λ t. rw t (refl, h, tt)) (λ t. rw t (refl, r.1, rising_up e y es r.2 (leb-false y e t)))
rising_up x y (negsuc e ∷ es) r h = absurd (let z : ◌≡◌ {A = ℕ} 0 1 = cc in omega arith)

some_runs : (n : ℕ) → eqb (n + 1) 0 ≡ false
some_runs n = ne_eqb (n + 1) 0 (λ e. omega arith)

all_but_last : (n : ℕ) → n + 1 - 1 ≡ n
all_but_last n = omega arith

pub window-rises : (start end : ℤ) (es : List ℤ) → ends_valid es ≡ None
    → ends_from 0 (touched_by start end es).start (window_ends (touched_by start end es) es) ≡ None
unfolding touched_by window_ends ends_from
window-rises start end es v =
    let x = to_nat start in
    let y = min (to_nat end) (to_nat (length_of_ends es)) in
    let ds = drop (first_end_above (pos x) es) es in
    let n = first_end_at_least (pos y) ds in
    by-test (ltb x y)
    (λ t. rw (t, some_runs n, all_but_last n)
    (rising-yes 0 x (take n ds ++ pos y ∷ []) (rising_up x y ds (rising-above x 0 es (rising es v)) (ltb-true x y t))))
    (λ t. rw t)

-- ---- its runs are those of the slice

cut_up : (x y : ℕ) (es vs : List ℤ) → RisingEnds x es → length es ≡ length vs
    → counted_from x (runs_of (take (first_end_at_least (pos y) es) es ++ pos y ∷ []) (take (first_end_at_least (pos y) es + 1) vs)) ≡ cut x y (runs_of es vs)
unfolding cut runs_of first_end_at_least first_where counted_from
cut_up x y [] [] r l = refl
cut_up x y [] (v ∷ vs) r l = let z : ⊥ = omega arith in absurd z
cut_up x y (e ∷ es) [] r l = let z : ⊥ = omega arith in absurd z
cut_up x y (pos e ∷ es) (v ∷ vs) r l =
    by-test (leb y e)
    (λ t. rw (t, lt-leb e x r.1))
    (λ t. let k : suc (first_end_at_least (pos y) es) + 1 ≡ suc (first_end_at_least (pos y) es + 1) = omega arith in
    rw (t, lt-leb e x r.1, k) (ap {B = Runs} (λ rs. record { end = e - x; value = v } ∷ rs)
    (cut_up x y es vs (rising-lower x e es (omega (arith, r.1)) r.2) (omega arith))))
cut_up x y (negsuc e ∷ es) (v ∷ vs) r l = absurd (let z : ◌≡◌ {A = ℕ} 0 1 = cc in omega arith)

cut-within : (x y p : ℕ) (es vs : List ℤ) → RisingEnds p es → length es ≡ length vs
    → let ds = drop (first_end_above (pos x) es) es in
    counted_from x (runs_of (take (first_end_at_least (pos y) ds) ds ++ pos y ∷ []) (take (first_end_at_least (pos y) ds + 1) (drop (first_end_above (pos x) es) vs)))
    ≡ cut x y (runs_of es vs)
unfolding cut runs_of first_end_above first_where first_end_at_least counted_from
cut-within x y p [] [] r l = refl
cut-within x y p [] (v ∷ vs) r l = let z : ⊥ = omega arith in absurd z
cut-within x y p (e ∷ es) [] r l = let z : ⊥ = omega arith in absurd z
cut-within x y p (pos e ∷ es) (v ∷ vs) r l =
    by-test (ltb x e)
    (λ t. rw t (cut_up x y (pos e ∷ es) (v ∷ vs) (refl, ltb-true x e t, r.2) l))
    (λ t. rw (t, le-leb e x (ltb-false x e t)) (cut-within x y e es vs r.2 (omega arith)))
cut-within x y p (negsuc e ∷ es) (v ∷ vs) r l = absurd (let z : ◌≡◌ {A = ℕ} 0 1 = cc in omega arith)

pub window-slice : (start end : ℤ) (es vs : List ℤ) → ends_valid es ≡ None → length es ≡ length vs
    → window_runs (touched_by start end es) es vs ≡ slice_runs start end (runs_of es vs)
unfolding touched_by window_ends window_values slice_runs runs_of counted_from
window-slice start end es vs v l =
    let n : to_nat (length_of_ends es) ≡ length_of (runs_of es vs) = ap to_nat (length_of-ends es vs v l) in
    let x = to_nat start in
    let y = min (to_nat end) (length_of (runs_of es vs)) in
    let c = first_end_at_least (pos y) (drop (first_end_above (pos x) es) es) in
    by-test (ltb x y)
    (λ t. rw (n, t, some_runs c, all_but_last c) (cut-within x y 0 es vs (rising es v) l))
    (λ t. rw (n, t))

-- ---- a whole column is a window

up_to_last : (e : ℤ) (es : List ℤ) → take (length es) (e ∷ es) ++ last_from e es ∷ [] ≡ e ∷ es
up_to_last e [] = refl
up_to_last e (f ∷ es) = ap {B = List ℤ} (λ xs. e ∷ xs) (up_to_last f es)

pub whole-ends : (es : List ℤ) → window_ends (whole_of es) es ≡ es
unfolding window_ends length_of_ends
whole-ends [] = refl
whole-ends (e ∷ es) =
    let z : eqb (suc (length es)) 0 ≡ false = ne_eqb (suc (length es)) 0 (λ k. omega arith) in
    let n : suc (length es) - 1 ≡ length es = omega arith in
    rw (z, n) (up_to_last e es)

pub whole-values : (es vs : List ℤ) → length es ≡ length vs → window_values (whole_of es) vs ≡ vs
unfolding window_values
whole-values es vs l = take_all (length es) vs (omega arith)

counted-here : (rs : Runs) → counted_from 0 rs ≡ rs
unfolding counted_from
counted-here [] = refl
counted-here (r ∷ rs) = let e : r.end - 0 ≡ r.end = omega arith in rw (e, counted-here rs)

pub whole-runs : (es vs : List ℤ) → length es ≡ length vs → window_runs (whole_of es) es vs ≡ runs_of es vs
whole-runs es vs l = counted-here (runs_of (window_ends (whole_of es) es) (window_values (whole_of es) vs)) ∙ ap₂ runs_of (whole-ends es) (whole-values es vs l)

pub whole-window : (es vs : List ℤ) → length es ≡ length vs → SFits w64 (length_of_ends es) → Window (whole_of es) es vs
whole-window es vs l f = record {
  paired = l;
  inside = omega arith;
  natural = refl;
  fitting = rw (+ℤ_idr (length_of_ends es)) f;
}

-- ---- steps over runs counted from the start of a window

fold_counted_from : {A : Type 0} (step : A → ℕ → ℤ → A) (a : A) (p q : ℕ) (rs : Runs) → p ≤ q → Rising q rs
    → fold_runs step a q rs ≡ fold_runs step a (q - p) (counted_from p rs)
unfolding fold_runs counted_from
fold_counted_from step a p q [] h v = refl
fold_counted_from step a p q (r ∷ rs) h v =
    let n : r.end - q ≡ r.end - p - (q - p) = omega arith in
    fold_counted_from step (step a (r.end - q) r.value) p r.end rs (omega (arith, v.0)) v.1
    ∙ ap (λ (run : ℕ). fold_runs step (step a run r.value) (r.end - p) (counted_from p rs)) n

pub fold_counted : {A : Type 0} (step : A → ℕ → ℤ → A) (a : A) (p : ℕ) (rs : Runs) → Rising p rs → fold_runs step a p rs ≡ fold_runs step a 0 (counted_from p rs)
fold_counted step a p rs v =
    let n : p - p ≡ 0 = omega arith in
    fold_counted_from step a p p rs (omega arith) v ∙ ap (λ (q : ℕ). fold_runs step a q (counted_from p rs)) n

-- ---- the length of a window

last-counted : (x q : ℕ) (es : List ℤ) (e : ℤ) (vs : List ℤ) → length vs ≡ length es + 1 → last_end q (counted_from x (runs_of (es ++ e ∷ []) vs)) ≡ to_nat e - x
unfolding runs_of counted_from
last-counted x q es e [] l = let z : ⊥ = omega arith in absurd z
last-counted x q [] e (v ∷ []) l = refl
last-counted x q [] e (v ∷ w ∷ vs) l = let z : ⊥ = omega arith in absurd z
last-counted x q (d ∷ es) e (v ∷ vs) l = last-counted x (to_nat d - x) es e vs (omega arith)

module _ (t : TouchedRuns) (es vs : List ℤ) where
  pub counted_none : t.count ≡ 0 → window_runs t es vs ≡ []
  unfolding window_ends runs_of counted_from
  counted_none e = rw (eq-eqb t.count 0 e)

  pub counted-length : length es ≡ length vs → 0 < t.count → t.first + t.count ≤ length es
      → length_of (window_runs t es vs) ≡ to_nat t.end - to_nat t.start
  unfolding window_ends window_values length_of
  counted-length l h i =
      let z : eqb t.count 0 ≡ false = ne_eqb t.count 0 (λ e. omega arith) in
      let m : length (take (t.count - 1) (drop t.first es)) ≡ t.count - 1 = length-take-le (t.count - 1) (drop t.first es)
      (rw length-drop (omega arith)) in
      let k : length (take t.count (drop t.first vs)) ≡ t.count = length-take-le t.count (drop t.first vs) (rw length-drop (omega arith)) in
      rw z (last-counted (to_nat t.start) 0 (take (t.count - 1) (drop t.first es)) t.end (take t.count (drop t.first vs)) (omega arith))
