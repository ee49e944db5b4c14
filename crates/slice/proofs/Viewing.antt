-- A view of a slice by the runs that it touches, and its values.
-- Assumes nothing.
use Rattle.std.proofs.Common.{◌≡◌, ℕ, zero, suc, ◌+◌, ◌-◌, min, ltb, List, [], ◌∷◌, map, length, take, drop, ℤ, pos, ◌-ℤ◌, sym, refl, ap, ◌∙◌}
use Rattle.std.proofs.Common.{arith, w64, SFits, to_z, of_z, to_z-of_z, ltb-true}
use Rattle.std.specs.Prelude.{Some, None}
use lib.Seq.{take-nil}
use Rattle.num.proofs.Tests.{by-test}
use Rattle.column.specs.Asking.{Question, first_no}
use Rattle.column.specs.Paper.{PaperRefusal, Outcome, answers}
use Rattle.column.specs.Questions.{paired, ends_valid}
use Rattle.column.specs.Runs.{sequence, Run, Runs, values_of, to_nat, runs_of, length_of, length_of_ends}
use Rattle.column.proofs.Ends.{length_of-ends, values-runs}
use Rattle.column.proofs.FirstNo.{all_yes}
use Rattle.column.proofs.Naturals.{to_nat-below}
use Rattle.column.proofs.Promised.{value-answered}
use Rattle.column.proofs.Told.{agree-told}
use Rattle.slice.specs.declared.Part.{Part}
use Rattle.slice.specs.declared.View.{View}
use Rattle.slice.specs.declared.inner.search.TouchedRuns.{TouchedRuns}
use Rattle.slice.specs.Workers.{touched_by, clipped, cut_runs}
use Rattle.slice.specs.Calls.{slice_runs, view_of, slice_view, slice_part, entries_of, PartOf}
use Rattle.num.proofs.Difference.{difference_of, difference-fits}
use Rattle.slice.proofs.Touching.{cut_touched, touched_inside, touches, touched_count}

-- the questions of a view, and what they tell
abbrev pub view_asked : List ℤ → List ℤ → Question
view_asked es vs = first_no (paired (sequence es vs) ∷ ends_valid es ∷ [])

pub view_told : (es vs : List ℤ) → view_asked es vs ≡ None → (ends_valid es ≡ None) × (length es ≡ length vs)
unfolding paired
view_told es vs h = let y = all_yes (paired (sequence es vs) ∷ ends_valid es ∷ []) h in (y.1.0, agree-told 3 (length es) (length vs) y.0)

values-clipped : (x y : ℕ) (rs : Runs) → values_of (map (clipped x y) rs) ≡ values_of rs
unfolding values_of
values-clipped x y [] = refl
values-clipped x y (r ∷ rs) = ap {B = List ℤ} (λ xs. r.value ∷ xs) (values-clipped x y rs)

values-part : (n a : ℕ) (rs : Runs) → values_of (take n (drop a rs)) ≡ take n (drop a (values_of rs))
unfolding values_of
values-part zero zero rs = refl
values-part (suc n) zero [] = refl
values-part (suc n) zero (r ∷ rs) = ap {B = List ℤ} (λ xs. r.value ∷ xs) (values-part n zero rs)
values-part n (suc a) [] = rw (take-nil {A = Run} n, take-nil {A = ℤ} n)
values-part n (suc a) (r ∷ rs) = values-part n a rs

module _ (start end : ℤ) (es vs : List ℤ) (v : ends_valid es ≡ None) (l : length es ≡ length vs) where
  -- the view that they say
  pub view_touched : let t = touched_by start end es in
      ◌≡◌ {A = View} (record { first = t.first; start = t.start; length = t.end -ℤ t.start }) (view_of (sequence es vs) start end)
  unfolding touched_by view_of
  view_touched =
      let n : to_nat (length_of_ends es) ≡ length_of (runs_of es vs) = ap to_nat (length_of-ends es vs v l) in
      let y = min (to_nat end) (length_of (runs_of es vs)) in
      by-test (ltb (to_nat start) y)
      (λ t. let h = ltb-true (to_nat start) y t in
      let d : pos y -ℤ pos (to_nat start) ≡ pos (y - to_nat start) = difference_of refl refl (omega arith) in
      rw (n, t, d))
      (λ t. rw (n, t))

  pub view_fits : let t = touched_by start end es in SFits w64 t.end → SFits w64 (t.end -ℤ t.start)
  view_fits f =
      let i = touched_inside start end es v in
      let t = touches start end es es es es v refl (omega arith) (omega arith) in
      difference-fits t.end_natural t.start_natural t.ordered (to_nat-below (touched_by start end es).end f)

  abbrev touched_part : Part
  touched_part = record { first = (touched_by start end es).first; count = (touched_by start end es).count }

  part_is : view_asked es vs ≡ None → touched_part ≡ slice_part (sequence es vs) start end
  unfolding slice_part slice_view
  part_is y =
      let f : (view_of (sequence es vs) start end).first ≡ (touched_by start end es).first = ap (λ (w : View). w.first) (sym view_touched) in
      let n : length (slice_runs start end (runs_of es vs)) ≡ (touched_by start end es).count = sym (touched_count start end es vs v l) in
      rw (y, f, n)

  pub part_touched : view_asked es vs ≡ None → PartOf touched_part (slice_part (sequence es vs) start end) vs
  part_touched y = let i = touched_inside start end es v in record { same = part_is y; inside = omega arith }

  values_touched : view_asked es vs ≡ None → entries_of touched_part vs ≡ entries_of (slice_part (sequence es vs) start end) vs
  values_touched y = ap (λ (p : Part). entries_of p vs) (part_is y)

  -- the values of a view are those of the slice
  pub values-slice : view_asked es vs ≡ None → entries_of (slice_part (sequence es vs) start end) vs ≡ values_of (slice_runs start end (runs_of es vs))
  unfolding cut_runs
  values-slice y =
      let t = touched_by start end es in
      let k : t.first + t.count - t.first ≡ t.count = omega arith in
      sym (values_touched y)
      ∙ ap (λ (m : ℕ). take m (drop t.first vs)) k
      ∙ ap (λ (xs : List ℤ). take t.count (drop t.first xs)) (sym (values-runs es vs l))
      ∙ sym (values-clipped (to_nat t.start) (to_nat t.end) (take t.count (drop t.first (runs_of es vs)))
      ∙ values-part t.count t.first (runs_of es vs))
      ∙ ap values_of (cut_touched start end es vs v l)

pub part-refused : (start end : ℤ) (es vs : List ℤ) {r : PaperRefusal} → view_asked es vs ≡ Some r
    → PartOf (record { first = 0; count = 0 }) (slice_part (sequence es vs) start end) vs
unfolding slice_part slice_view
part-refused start end es vs h = rw h (record { same = refl; inside = omega arith })

-- as the code found it, by its locals
module _ {start end : ℤ} (es vs : List ℤ) (fs : SFits w64 start) (fe : SFits w64 end) (y : None ≡ view_asked es vs) {t : TouchedRuns}
    (et : ends_valid es ≡ None → t ≡ touched_by (to_z w64 (of_z w64 start)) (to_z w64 (of_z w64 end)) es) where
  known : (ends_valid es ≡ None) × (length es ≡ length vs)
  known = view_told es vs (sym y)

  found : t ≡ touched_by start end es
  found = rw (to_z-of_z fs, to_z-of_z fe) at (et known.0)

  pub part-found : PartOf (record { first = t.first; count = t.count }) (slice_part (sequence es vs) start end) vs
  part-found = rw found (part_touched start end es vs known.0 known.1 (sym y))

  module _ (gs : SFits w64 t.start) (ge : SFits w64 t.end) where
    abbrev length_held : ℤ
    length_held = to_z w64 (of_z w64 t.end) -ℤ to_z w64 (of_z w64 t.start)

    pub length-fits : SFits w64 length_held
    length-fits = rw (to_z-of_z gs, to_z-of_z ge, found) (view_fits start end es vs known.0 known.1 (rw found at ge))

    pub view-found : ◌≡◌ {A = Outcome View} (answers (record { first = t.first; start = to_z w64 (of_z w64 t.start); length = to_z w64 (of_z w64 length_held) }))
        (slice_view (sequence es vs) start end)
    unfolding slice_view
    view-found =
        value-answered (sym y) (rw (to_z-of_z length-fits, to_z-of_z gs, to_z-of_z ge, found) (view_touched start end es vs known.0 known.1))
