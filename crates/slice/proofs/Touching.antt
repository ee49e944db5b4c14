-- The runs that a slice touches: they stand inside the sequence, and cut to the slice they are its runs.
-- Assumes nothing.
use Rattle.std.proofs.Common.{◌≡◌, ℕ, zero, suc, ◌+◌, ◌-◌, ◌<◌, ◌≤◌, min, true, false, ltb, leb, List, [], ◌∷◌, map, length, get_or, take, drop, ℤ}
use Rattle.std.proofs.Common.{pos, negsuc, sym, refl, ap, ◌∙◌, ap₂, arith, length-drop, get_or-drop, to_z-of_z, w64, SFits, to_z, of_z, ltb-false}
use Rattle.std.proofs.Common.{ltb-true, le-ltb, lt-ltb, le-leb, leb-false, leb-true}
use Rattle.std.specs.Prelude.{None}
use lib.Signed.{le_z, lt_z}
use borrow.Author.Tests.{lt-leb}
use Rattle.num.specs.Numbers.{smaller_of, larger_of}
use Rattle.num.proofs.Tests.{by-test}
use Rattle.column.specs.Questions.{ends_valid}
use Rattle.column.specs.Runs.{Runs, to_nat, runs_of, length_of, length_of_ends}
use Rattle.column.specs.Workers.{RisingEnds}
use Rattle.column.proofs.Ends.{rising, length_of-ends, natural_end}
use Rattle.column.proofs.Naturals.{smaller_naturals}
use Rattle.column.proofs.Sequences.{length_none, length_last}
use Rattle.slice.specs.declared.inner.search.Interval.{Interval}
use Rattle.slice.specs.declared.inner.search.TouchedRuns.{TouchedRuns}
use Rattle.slice.specs.Calls.{first_where, first_end_above, cut, slice_runs}
use Rattle.slice.specs.Workers.{first_end_at_least, clamped_to, touched_by, clipped, cut_runs, Touches}
use Rattle.slice.proofs.Slicing.{length_cut}
use Rattle.slice.proofs.Searching.{rising-valid, above-least, above-past, least-least}

-- ---- the rest of valid ends is valid

pub rising-lower : (p q : ℕ) (es : List ℤ) → p ≤ q → RisingEnds q es → RisingEnds p es
rising-lower p q [] h r = tt
rising-lower p q (e ∷ es) h r = (r.0, omega (arith, r.1), r.2)

rising-rest : (p i : ℕ) (es : List ℤ) → RisingEnds p es → RisingEnds p (drop i es)
rising-rest p zero es r = r
rising-rest p (suc i) [] r = tt
rising-rest p (suc i) (e ∷ es) r = rising-lower p (to_nat e) (drop i es) (omega (arith, r.1)) (rising-rest (to_nat e) i es r.2)

pub rest-valid : (i : ℕ) (es : List ℤ) → ends_valid es ≡ None → ends_valid (drop i es) ≡ None
rest-valid i es v = rising-valid (drop i es) (rising-rest 0 i es (rising es v))

-- ---- the touched runs are those of the slice

cut_all : (x y : ℕ) (es vs : List ℤ) → RisingEnds x es → length es ≡ length vs
    → cut x y (runs_of es vs) ≡ map (clipped x y) (take (first_end_at_least (pos y) es + 1) (runs_of es vs))
unfolding cut runs_of first_end_at_least first_where
cut_all x y [] vs r l = refl
cut_all x y (e ∷ es) [] r l = let z : ⊥ = omega arith in absurd z
cut_all x y (e ∷ es) (v ∷ vs) r l =
    let a : leb (to_nat e) x ≡ false = lt-leb (to_nat e) x r.1 in
    let q : le_z (pos y) e ≡ leb y (to_nat e) = ap (le_z (pos y)) r.0 in
    by-test (leb y (to_nat e))
    (λ t. let m : min (to_nat e) y ≡ y = omega (arith, leb-true y (to_nat e) t) in rw (a, q, t, m))
    (λ t. let m : min (to_nat e) y ≡ to_nat e = omega (arith, leb-false y (to_nat e) t) in
    let k : suc (first_end_at_least (pos y) es) + 1 ≡ suc (first_end_at_least (pos y) es + 1) = omega arith in
    rw (a, q, t, k, m) (ap {B = Runs} (λ rs. record { end = to_nat e - x; value = v } ∷ rs)
    (cut_all x y es vs (rising-lower x (to_nat e) es (omega (arith, r.1)) r.2) (omega arith))))

cut-from : (x y p : ℕ) (es vs : List ℤ) → RisingEnds p es → length es ≡ length vs
    → cut x y (runs_of es vs) ≡ map (clipped x y)
    (take (first_end_at_least (pos y) (drop (first_end_above (pos x) es) es) + 1) (drop (first_end_above (pos x) es) (runs_of es vs)))
unfolding cut runs_of first_end_above first_where first_end_at_least
cut-from x y p [] vs r l = refl
cut-from x y p (e ∷ es) [] r l = let z : ⊥ = omega arith in absurd z
cut-from x y p (e ∷ es) (v ∷ vs) r l =
    let q : lt_z (pos x) e ≡ ltb x (to_nat e) = ap (lt_z (pos x)) r.0 in
    by-test (ltb x (to_nat e))
    (λ t. rw (q, t) (cut_all x y (e ∷ es) (v ∷ vs) (r.0, ltb-true x (to_nat e) t, r.2) l))
    (λ t. rw (q, t, le-leb (to_nat e) x (ltb-false x (to_nat e) t)) (cut-from x y (to_nat e) es vs r.2 (omega arith)))

pub cut_touched : (start end : ℤ) (es vs : List ℤ) → ends_valid es ≡ None → length es ≡ length vs
    → cut_runs (touched_by start end es) (runs_of es vs) ≡ slice_runs start end (runs_of es vs)
unfolding cut_runs touched_by slice_runs
cut_touched start end es vs v l =
    let n : to_nat (length_of_ends es) ≡ length_of (runs_of es vs) = ap to_nat (length_of-ends es vs v l) in
    let y = min (to_nat end) (length_of (runs_of es vs)) in
    by-test (ltb (to_nat start) y)
    (λ t. rw (n, t) (sym (cut-from (to_nat start) y 0 es vs (rising es v) l)))
    (λ t. rw (n, t))

-- ---- they stand inside the sequence

module _ (es : List ℤ) (v : ends_valid es ≡ None) (x y : ℕ) (h : x < y) (k : y ≤ to_nat (length_of_ends es)) where
  ends_some : 0 < length es
  ends_some = by-test (ltb 0 (length es)) (λ t. ltb-true 0 (length es) t)
      (λ t. let e : length_of_ends es ≡ pos 0 = length_none es (omega (arith, ltb-false 0 (length es) t)) in
      let z : y ≤ 0 = rw e at k in let w : ⊥ = omega arith in absurd w)

  last-end : get_or es (length es - 1) (pos 0) ≡ pos (to_nat (length_of_ends es))
  last-end =
      let l = length_last es (λ e. let z : ⊥ = omega (arith, ends_some) in z) in
      natural_end es (length es - 1) v (omega (arith, ends_some)) ∙ ap (λ (z : ℤ). pos (to_nat z)) (sym l)

  pub first_inside : first_end_above (pos x) es < length es
  first_inside =
      let t : le_z (get_or es (length es - 1) (pos 0)) (pos x) ≡ false = rw last-end (lt-leb (to_nat (length_of_ends es)) x (omega arith)) in
      omega (arith, ends_some, above-least (pos x) es (length es - 1) (omega (arith, ends_some)) t)

  pub count-inside : first_end_above (pos x) es + (first_end_at_least (pos y) (drop (first_end_above (pos x) es) es) + 1) ≤ length es
  count-inside =
      let f = first_end_above (pos x) es in
      let i = first_inside in
      let m : f + (length es - 1 - f) ≡ length es - 1 = omega arith in
      let t : lt_z (get_or (drop f es) (length es - 1 - f) (pos 0)) (pos y) ≡ false =
      rw (get_or-drop f es (length es - 1 - f) (pos 0), m, last-end) (le-ltb (to_nat (length_of_ends es)) y k) in
      omega (arith, least-least (pos y) (drop f es) (length es - 1 - f) (rw length-drop (omega arith)) t)

  -- and end above the start
  pub touched_above : (i : ℕ) → first_end_above (pos x) es ≤ i → i < length es → x < to_nat (get_or es i (pos 0))
  touched_above i f l =
      by-test (le_z (get_or es i (pos 0)) (pos x))
      (λ t. let z : ⊥ = omega (arith, above-past (pos x) es i v l t) in absurd z)
      (λ t. leb-false (to_nat (get_or es i (pos 0))) x (rw (natural_end es i v l) at t))

pub touched_inside : (start end : ℤ) (es : List ℤ) → ends_valid es ≡ None → (touched_by start end es).first + (touched_by start end es).count ≤ length es
unfolding touched_by
touched_inside start end es v =
    let x = to_nat start in
    let y = min (to_nat end) (to_nat (length_of_ends es)) in
    by-test (ltb x y) (λ t. rw t (count-inside es v x y (ltb-true x y t) (omega arith))) (λ t. rw t (omega arith))

pub touches : (start end : ℤ) (es vs e v : List ℤ) → ends_valid es ≡ None → length es ≡ length vs
    → (touched_by start end es).count ≤ length e → (touched_by start end es).count ≤ length v → Touches (touched_by start end es) es vs e v
unfolding touched_by
touches start end es vs e v valid l re rv =
    let x = to_nat start in
    let y = min (to_nat end) (to_nat (length_of_ends es)) in
    by-test (ltb x y)
    (λ t. let h = ltb-true x y t in
    let k : y ≤ to_nat (length_of_ends es) = omega arith in
    let c = count-inside es valid x y h k in
    rw t (record {
      paired = l;
      inside = c;
      start_natural = refl;
      end_natural = refl;
      ordered = omega arith;
      naturals = λ i j. natural_end es i valid j;
      above = λ i j. omega (arith, touched_above es valid x y h k (first_end_above (pos x) es + i) (omega arith) (omega arith));
      room_ends = rw t at re;
      room_values = rw t at rv;
    }))
    (λ t. rw t (record {
      paired = l;
      inside = omega arith;
      start_natural = refl;
      end_natural = refl;
      ordered = omega arith;
      naturals = λ i j. natural_end es i valid j;
      above = λ i j. let z : ⊥ = omega arith in absurd z;
      room_ends = omega arith;
      room_values = omega arith;
    }))

-- as many as the slice has runs
pub touched_count : (start end : ℤ) (es vs : List ℤ) → ends_valid es ≡ None → length es ≡ length vs
    → (touched_by start end es).count ≡ length (slice_runs start end (runs_of es vs))
touched_count start end es vs v l =
    let i = touched_inside start end es v in
    sym (length_cut (touches start end es vs es es v l (omega arith) (omega arith))) ∙ ap length (cut_touched start end es vs v l)

-- ---- as the code finds them

larger_zero : (z : ℤ) → larger_of z (pos 0) ≡ pos (to_nat z)
larger_zero (pos n) = by-test (leb n 0) (λ t. let e : 0 ≡ n = omega (arith, leb-true n 0 t) in rw t (ap pos e)) (λ t. rw t)
larger_zero (negsuc n) = refl

smaller_le : (z : ℤ) (l x : ℕ) → le_z (smaller_of z (pos l)) (pos x) ≡ leb (min (to_nat z) l) x
smaller_le (pos n) l x = rw (smaller_naturals n l)
smaller_le (negsuc n) l x = sym (le-leb (min 0 l) x (omega arith))

smaller_natural : (z : ℤ) (l x : ℕ) → le_z (smaller_of z (pos l)) (pos x) ≡ false → smaller_of z (pos l) ≡ pos (min (to_nat z) l)
smaller_natural (pos n) l x t = smaller_naturals n l
smaller_natural (negsuc n) l x t = cc

-- the locals of an interval that is clamped
pub record Clamped (es : List ℤ) (start end f t : ℤ) : Type 0 where
  pub from : f ≡ larger_of start (pos 0)
  pub to : t ≡ smaller_of end (length_of_ends es)

pub clamped-told : {es : List ℤ} {start end : ℤ} {i : Interval} → i ≡ clamped_to es (to_z w64 (of_z w64 start)) (to_z w64 (of_z w64 end))
    → SFits w64 start → SFits w64 end → SFits w64 i.start → SFits w64 i.end
    → Clamped es start end (to_z w64 (of_z w64 i.start)) (to_z w64 (of_z w64 i.end))
clamped-told {es} e fs fe gs ge = record {
  from = to_z-of_z gs ∙ ap (λ (j : Interval). j.start) e ∙ ap (λ (z : ℤ). larger_of z (pos 0)) (to_z-of_z fs);
  to = to_z-of_z ge ∙ ap (λ (j : Interval). j.end) e ∙ ap (λ (z : ℤ). smaller_of z (length_of_ends es)) (to_z-of_z fe);
}

module _ {es : List ℤ} {start end f t : ℤ} (c : Clamped es start end f t) (v : ends_valid es ≡ None) where
  abbrev to : ℕ
  to = min (to_nat end) (to_nat (length_of_ends es))

  length-natural : length_of_ends es ≡ pos (to_nat (length_of_ends es))
  length-natural = let e = length_of-ends es es v refl in e ∙ ap (λ (z : ℤ). pos (to_nat z)) (sym e)

  end_is : t ≡ smaller_of end (pos (to_nat (length_of_ends es)))
  end_is = c.to ∙ ap (smaller_of end) length-natural

  start_is : f ≡ pos (to_nat start)
  start_is = c.from ∙ larger_zero start

  test_is : le_z t f ≡ leb to (to_nat start)
  test_is = ap₂ le_z end_is start_is ∙ smaller_le end (to_nat (length_of_ends es)) (to_nat start)

  pub touched_none : le_z t f ≡ true → ◌≡◌ {A = TouchedRuns} (record { first = 0; count = 0; start = pos 0; end = pos 0 }) (touched_by start end es)
  unfolding touched_by
  touched_none b = rw (le-ltb (to_nat start) to (leb-true to (to_nat start) (sym test_is ∙ b)))

  pub touched_some : le_z t f ≡ false → {first n : ℕ} → first ≡ first_end_above f es → n ≡ first_end_at_least t (drop first es)
      → ◌≡◌ {A = TouchedRuns} (record { first = first; count = n + 1; start = f; end = t }) (touched_by start end es)
  unfolding touched_by
  touched_some b {first} {n} e d =
      let x = to_nat start in
      let h = leb-false to x (sym test_is ∙ b) in
      let q : t ≡ pos to = end_is ∙ smaller_natural end (to_nat (length_of_ends es)) x (sym (ap₂ le_z end_is start_is) ∙ b) in
      let i : first ≡ first_end_above (pos x) es = e ∙ ap (λ (z : ℤ). first_end_above z es) start_is in
      let m : n ≡ first_end_at_least (pos to) (drop (first_end_above (pos x) es) es) =
      d ∙ ap₂ (λ (z : ℤ) (k : ℕ). first_end_at_least z (drop k es)) q i in
      rw (lt-ltb x to h, i, m, start_is, q)
