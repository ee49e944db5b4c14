-- A slice from its first run up to the run that ends at or past its end: the searches find the two, and the end of a run tells whether it is the last.
-- Assumes nothing.
use Prim.Native.Nat.{ℕ, suc, ◌+◌, ◌-◌, ◌≤◌, ◌<◌, ◌^◌, min}
use mathlib.Core.Bool.{Bool, true, false, not}
use Rattle.std.specs.Prelude.{None}
use mathlib.Core.List.{List, [], ◌∷◌}
use mathlib.Core.Path.{◌≡◌, refl, ap, ap₂, sym, ◌∙◌}
use native.Mathlib.Omega.{arith}
use lib.IntN.{ℤ, pos, negsuc, ◌-ℤ◌}
use lib.Signed.{mag, le_z, lt_z}
use lib.ListN.{length, get_or, drop, set, length-drop, length-set}
use mir.Syntax.{w64}
use mir.Val.{SFits, to_z, of_z}
use mir.Facts.{to_z-of_z}
use lib.Seq.{get_or-drop}
use lib.Dec.{ltb}
use borrow.Author.Tests.{leb-true, ltb-true, ltb-false, lt-ltb, le-ltb}
use Rattle.num.specs.Numbers.{smaller_of}
use Rattle.num.proofs.Tests.{by-test, le_lt, lt_le}
use Rattle.column.specs.Questions.{ends_valid}
use Rattle.column.specs.Runs.{to_nat, runs_of, length_of_ends, Filled}
use Rattle.slice.specs.declared.inner.search.Interval.{Interval}
use Rattle.slice.specs.declared.inner.search.TouchedRuns.{TouchedRuns}
use Rattle.slice.specs.Calls.{first_where, first_end_above, slice_runs}
use Rattle.slice.specs.Workers.{first_end_at_least, clamped_to, touched_by, Touches}
use Rattle.slice.proofs.Searching.{where_below, where_at, least_above}
use Rattle.slice.proofs.Slicing.{Slicing, slicing_start, next_fits, slicing-next, slicing-end}
use Rattle.slice.proofs.Touching.{Clamped, clamped-told, touched_none, touched_some, touched_inside, touches, touched_count, cut_touched}
use Rattle.getitems.specs.Workers.{sought, found, SliceAt}

-- ---- two tests, of which the looser passes all that the stricter does: the stricter one's end is looked for from the looser one's on

module _ (loose strict : ℤ → Bool) (passes : (e : ℤ) → strict e ≡ true → loose e ≡ true) where
  where_on : (es : List ℤ) → first_where loose es + first_where strict (drop (first_where loose es) es) ≡ first_where strict es
  unfolding first_where
  where_on [] = refl
  where_on (e ∷ es) =
      by-test (loose e)
      (λ t. rw t (omega arith))
      (λ t. by-test (strict e)
      (λ u. let z : ◌≡◌ {A = ℕ} 0 1 = cc (passes e u) in let w : ⊥ = omega arith in absurd w)
      (λ u. rw (t, u) (omega (arith, where_on es))))

above_at_least : (x y : ℕ) → x < y → (e : ℤ) → le_z (pos y) e ≡ true → lt_z (pos x) e ≡ true
above_at_least x y h (pos e) t = lt-ltb x e (omega (arith, leb-true y e t))
above_at_least x y h (negsuc e) t = cc

least_on : (x y : ℕ) (es : List ℤ) → x < y → first_end_above (pos x) es + first_end_at_least (pos y) (drop (first_end_above (pos x) es) es) ≡ first_end_at_least (pos y)
    es
unfolding first_end_above first_end_at_least
least_on x y es h = where_on (λ e. lt_z (pos x) e) (λ e. le_z (pos y) e) (above_at_least x y h) es

-- ---- the touched runs, where there are some

module _ (start stop : ℤ) (es : List ℤ) (k : 0 < (touched_by start stop es).count) where
  abbrev x : ℕ
  x = to_nat start

  abbrev y : ℕ
  y = min (to_nat stop) (to_nat (length_of_ends es))

  ordered : ltb x y ≡ true
  unfolding touched_by
  ordered = by-test (ltb x y) (λ t. t) (λ t. let z : 0 < 0 = rw t at k in let w : ⊥ = omega arith in absurd w)

  -- the searches find the first and the last
  first_found : found es 0 start ≡ (touched_by start stop es).first
  unfolding touched_by sought
  first_found =
      let h = ltb-true x y ordered in
      let m : min x (to_nat (length_of_ends es)) - 0 ≡ x = omega arith in
      rw (ordered, m)

  last_found : found es 1 stop + 1 ≡ (touched_by start stop es).first + (touched_by start stop es).count
  unfolding touched_by sought
  last_found =
      let h = ltb-true x y ordered in
      let m : suc (y - 1) ≡ y = omega arith in
      let e : first_end_above (pos (y - 1)) es ≡ first_end_at_least (pos y) es =
      sym (least_above (y - 1) es) ∙ ap (λ (n : ℕ). first_end_at_least (pos n) es) m in
      rw ordered (omega (arith, least_on x y es h))

  -- a touched run that ends below the slice's end is not the last
  more-end : ends_valid es ≡ None → (i : ℕ) → i < (touched_by start stop es).count
      → lt_z (get_or es ((touched_by start stop es).first + i) (pos 0)) (touched_by start stop es).end ≡ ltb (i + 1) (touched_by start stop es).count
  unfolding touched_by first_end_at_least
  more-end v i h =
      let f = first_end_above (pos x) es in
      let n = first_end_at_least (pos y) (drop f es) in
      let j : i < n + 1 = rw ordered at h in
      let inside : f + (n + 1) ≤ length es = rw ordered at (touched_inside start stop es v) in
      rw (ordered, ← get_or-drop f es i (pos 0)) (by-test (ltb i n)
      (λ t. let l = ltb-true i n t in
      le_lt (pos y) (get_or (drop f es) i (pos 0)) (where_below (λ e. le_z (pos y) e) (drop f es) i l) ∙ sym (lt-ltb (i + 1) (n + 1) (omega arith)))
      (λ t. let l : n ≡ i = omega (arith, ltb-false i n t) in
      let w = where_at (λ e. le_z (pos y) e) (drop f es) (rw length-drop (omega arith)) in
      le_lt (pos y) (get_or (drop f es) i (pos 0)) (rw l at w) ∙ sym (le-ltb (i + 1) (n + 1) (omega arith))))

-- ---- as the code finds them

module _ {es : List ℤ} {start stop f t : ℤ} (c : Clamped es start stop f t) (v : ends_valid es ≡ None) where
  pub count_none : le_z t f ≡ true → 0 ≡ (touched_by start stop es).count
  count_none b = ap (λ (r : TouchedRuns). r.count) (touched_none c v b)

  module _ (b : le_z t f ≡ false) where
    abbrev some : TouchedRuns
    some = record { first = first_end_above f es; count = first_end_at_least t (drop (first_end_above f es) es) + 1; start = f; end = t }

    some_is : some ≡ touched_by start stop es
    some_is = touched_some c v b refl refl

    pub count-some : 0 < (touched_by start stop es).count
    count-some = rw (sym some_is) (omega arith)

    -- how many there are, by the first and the last
    module _ {first : ℕ} (e : first ≡ found es 0 start) where
      pub count-last : {last : ℕ} → last ≡ found es 1 stop → (first ≤ last) × (last - first + 1 ≡ (touched_by start stop es).count)
      count-last d =
          let i = first_found start stop es count-some in
          let j = last_found start stop es count-some in
          (omega (arith, count-some), omega (arith, count-some))

      held-touched : ◌≡◌ {A = TouchedRuns} (record { first = first; count = (touched_by start stop es).count; start = f; end = t }) (touched_by start stop es)
      held-touched =
          let i : first ≡ some.first = e ∙ first_found start stop es count-some ∙ ap (λ (r : TouchedRuns). r.first) (sym some_is) in
          let j = ap (λ (r : TouchedRuns). r.count) (sym some_is) in
          ap₂ (λ (a b : ℕ). record { first = a; count = b; start = f; end = t }) i j ∙ some_is

-- ---- the slice written, up to the run that is the last

-- n of its runs are written, and there are more
pub record Until (t : TouchedRuns) (es vs e₀ e v₀ v : List ℤ) (n : ℕ) : Type 0 where
  pub slicing : Slicing t es vs e₀ e v₀ v n
  pub more : n < t.count
  pub inside : t.first + n < length es
  pub room_ends : n < length e
  pub room_values : n < length v

-- as the locals hold it
abbrev held : ℤ → ℤ
held z = to_z w64 (of_z w64 z)

module _ {es vs e₀ v₀ : List ℤ} {first : ℕ} {start stop : ℤ} (p : SliceAt es vs first start stop e₀ v₀) (fs : SFits w64 start) (fe : SFits w64 stop)
    {i : Interval} (ei : i ≡ clamped_to es (held start) (held stop)) (gs : SFits w64 i.start) (ge : SFits w64 i.end) where
  interval : Clamped es start stop (held i.start) (held i.end)
  interval = clamped-told ei fs fe gs ge

  slice_touches : Touches (touched_by start stop es) es vs e₀ v₀
  slice_touches =
      let c = touched_count start stop es vs p.valid p.paired in
      touches start stop es vs e₀ v₀ p.valid p.paired (omega (arith, p.room_ends)) (omega (arith, p.room_values))

  slice_written : {e v : List ℤ} {n : ℕ} → Slicing (touched_by start stop es) es vs e₀ e v₀ v n → n ≡ (touched_by start stop es).count
      → Filled (slice_runs start stop (runs_of es vs)) e₀ e v₀ v n
  slice_written s h = rw (cut_touched start stop es vs p.valid p.paired, sym h) at (slicing-end slice_touches s (omega (arith, h)))

  pub slice_none : le_z (held i.end) (held i.start) ≡ true → Filled (slice_runs start stop (runs_of es vs)) e₀ e₀ v₀ v₀ 0
  slice_none b = slice_written (slicing_start slice_touches) (count_none interval p.valid b)

  module _ (b : le_z (held i.end) (held i.start) ≡ false) where
    abbrev locals : TouchedRuns
    locals = record { first = first; count = (touched_by (held start) (held stop) es).count; start = held i.start; end = held i.end }

    locals_are : locals ≡ touched_by start stop es
    locals_are = rw (to_z-of_z fs, to_z-of_z fe) (held-touched interval p.valid b p.first_found)

    counted : locals.count ≡ (touched_by start stop es).count
    counted = ap (λ (r : TouchedRuns). r.count) locals_are

    until_touches : Touches locals es vs e₀ v₀
    until_touches = rw locals_are slice_touches

    until_at : {e v : List ℤ} {n : ℕ} → Slicing locals es vs e₀ e v₀ v n → n < locals.count → length e ≡ length e₀ → length v ≡ length v₀
        → Until locals es vs e₀ e v₀ v n
    until_at s h le lv =
        let t = until_touches in
        record { slicing = s; more = h; inside = omega arith; room_ends = omega arith; room_values = omega arith }

    pub until_start : Until locals es vs e₀ e₀ v₀ v₀ 0
    until_start = until_at (slicing_start until_touches) (rw counted (count-some interval p.valid b)) refl refl

    module _ {e v : List ℤ} {n : ℕ} (u : Until locals es vs e₀ e v₀ v n) (fx : SFits w64 (get_or es (first + n) (pos 0))) {y : ℤ}
        (ey : y ≡ smaller_of (held (get_or es (first + n) (pos 0))) (held i.end)) (fy : mag y < 2 ^ 63) where
      abbrev end : ℤ
      end = held (get_or es (first + n) (pos 0))

      pub until_fits : SFits w64 (held y -ℤ held i.start)
      until_fits = next_fits until_touches n u.more ey fy fx refl refl

      more_is : le_z (held i.end) end ≡ not (ltb (n + 1) locals.count)
      more_is =
          lt_le end (held i.end)
          (rw (to_z-of_z fx) (rw (sym locals_are) at (more-end start stop es (count-some interval p.valid b) p.valid n (rw counted at u.more))))

      module _ (fw : SFits w64 (get_or vs (first + n) (pos 0))) where
        abbrev ends : List ℤ
        ends = set e n (held (held y -ℤ held i.start))

        abbrev values : List ℤ
        values = set v n (held (get_or vs (first + n) (pos 0)))

        next : Slicing locals es vs e₀ ends v₀ values (n + 1)
        next = slicing-next until_touches n u.more ey fy fx refl refl u.slicing (to_z-of_z fw)

        pub until-next : le_z (held i.end) end ≡ false → Until locals es vs e₀ ends v₀ values (n + 1)
        until-next h =
            by-test (ltb (n + 1) locals.count)
            (λ t. until_at next (ltb-true (n + 1) locals.count t) (rw length-set u.slicing.ends.long) (rw length-set u.slicing.values.long))
            (λ t. absurd (let z : true ≡ false = sym (more_is ∙ ap not t) ∙ h in let w : ◌≡◌ {A = ℕ} 0 1 = cc in omega arith))

        pub until_end : le_z (held i.end) end ≡ true → Filled (slice_runs start stop (runs_of es vs)) e₀ ends v₀ values (n + 1)
        until_end h =
            by-test (ltb (n + 1) locals.count)
            (λ t. absurd (let z : false ≡ true = sym (more_is ∙ ap not t) ∙ h in let w : ◌≡◌ {A = ℕ} 0 1 = cc in omega arith))
            (λ t. let k = ltb-false (n + 1) locals.count t in
            let m = u.more in
            slice_written (rw locals_are at next) (omega (arith, counted)))
