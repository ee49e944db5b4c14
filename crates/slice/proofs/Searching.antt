-- The searches: which ends stand below the index that they find, and which at it.
-- Assumes nothing.
use Rattle.std.proofs.Common.{◌≡◌, ℕ, zero, suc, ◌+◌, ◌-◌, ◌/◌, ◌<◌, ◌≤◌, Bool, true, false, cond, eqb, List, [], ◌∷◌, length, get_or, take, ℤ, pos}
use Rattle.std.proofs.Common.{negsuc, ◌-ℤ◌, sym, refl, ap, ◌∙◌, arith, length-take-le, to_z-of_z, w64, SFits, to_z, of_z, ltb-true, le-ltb, le-leb}
use Rattle.std.proofs.Common.{leb-false, leb-true}
use Rattle.std.specs.Prelude.{None}
use lib.Signed.{le_z, lt_z}
use Rattle.num.proofs.Tests.{by-test, lt_le, le_lt}
use Rattle.column.specs.Questions.{ends_valid}
use Rattle.column.specs.Runs.{to_nat}
use Rattle.column.specs.Workers.{RisingEnds}
use Rattle.column.proofs.Appending.{rising_at}
use Rattle.column.proofs.Ends.{rising, rising-yes}
use Rattle.num.proofs.Difference.{difference_of, difference-fits}
use Rattle.slice.specs.Calls.{first_where, first_end_above}
use Rattle.slice.specs.Workers.{first_end_at_least, Halving}

-- ---- any ends

module _ (test : ℤ → Bool) where
  pub where_within : (es : List ℤ) → first_where test es ≤ length es
  unfolding first_where
  where_within [] = omega arith
  where_within (e ∷ es) = by-test (test e) (λ t. rw t (omega arith)) (λ t. rw t (omega (arith, where_within es)))

  -- the ends below the index do not pass
  pub where_below : (es : List ℤ) (i : ℕ) → i < first_where test es → test (get_or es i (pos 0)) ≡ false
  unfolding first_where
  where_below [] i h = let z : ⊥ = omega arith in absurd z
  where_below (e ∷ es) zero h = by-test (test e) (λ t. absurd (let k : zero < 0 = rw t at h in let z : ⊥ = omega arith in z)) (λ t. t)
  where_below (e ∷ es) (suc i) h =
      by-test (test e)
      (λ t. absurd (let k : suc i < 0 = rw t at h in let z : ⊥ = omega arith in z))
      (λ t. let k : suc i < suc (first_where test es) = rw t at h in where_below es i (omega arith))

  -- the end at it does
  pub where_at : (es : List ℤ) → first_where test es < length es → test (get_or es (first_where test es) (pos 0)) ≡ true
  unfolding first_where
  where_at [] h = let z : ⊥ = omega arith in absurd z
  where_at (e ∷ es) h =
      by-test (test e) (λ t. rw t t) (λ t. let k : suc (first_where test es) < suc (length es) = rw t at h in rw t (where_at es (omega arith)))

  -- and no index past one of an end that passes is found
  pub where_least : (es : List ℤ) (i : ℕ) → i < length es → test (get_or es i (pos 0)) ≡ true → first_where test es ≤ i
  unfolding first_where
  where_least [] i h k = let z : ⊥ = omega arith in absurd z
  where_least (e ∷ es) zero h k = rw k (omega arith)
  where_least (e ∷ es) (suc i) h k = by-test (test e) (λ t. rw t (omega arith)) (λ t. rw t (omega (arith, where_least es i (omega arith) k)))

module _ (p : ℤ) (es : List ℤ) (i : ℕ) (h : i < length es) where
  pub above-least : le_z (get_or es i (pos 0)) p ≡ false → first_end_above p es ≤ i
  unfolding first_end_above
  above-least k = where_least (λ e. lt_z p e) es i h (le_lt (get_or es i (pos 0)) p k)

  pub least-least : lt_z (get_or es i (pos 0)) p ≡ false → first_end_at_least p es ≤ i
  unfolding first_end_at_least
  least-least k = where_least (λ e. le_z p e) es i h (lt_le (get_or es i (pos 0)) p k)

-- ---- valid ends

pub rising-valid : (es : List ℤ) → RisingEnds 0 es → ends_valid es ≡ None
unfolding ends_valid
rising-valid es r = rising-yes 0 0 es r

le_lower : (m n : ℕ) (p : ℤ) → m ≤ n → le_z (pos n) p ≡ true → le_z (pos m) p ≡ true
le_lower m n (pos q) h t = le-leb m q (omega (arith, leb-true n q t))
le_lower m n (negsuc q) h t = cc

above-past-from : (p : ℤ) (q : ℕ) (es : List ℤ) (i : ℕ) → RisingEnds q es → i < length es → le_z (get_or es i (pos 0)) p ≡ true → i < first_end_above p es
unfolding first_end_above first_where
above-past-from p q [] i r h t = let z : ⊥ = omega arith in absurd z
above-past-from p q (e ∷ es) zero r h t = rw (le_lt e p t) (omega arith)
above-past-from p q (e ∷ es) (suc i) r h t =
    let a = rising_at (to_nat e) es i r.2 (omega arith) in
    let low : le_z e p ≡ true = rw r.0 (le_lower (to_nat e) (to_nat (get_or es i (pos 0))) p (omega (arith, a.1)) (rw a.0 at t)) in
    rw (le_lt e p low) (omega (arith, above-past-from p (to_nat e) es i r.2 (omega arith) t))

-- the index found is past every end that is not above the position
pub above-past : (p : ℤ) (es : List ℤ) (i : ℕ) → ends_valid es ≡ None → i < length es → le_z (get_or es i (pos 0)) p ≡ true → i < first_end_above p es
above-past p es i v h t = above-past-from p 0 es i (rising es v) h t

-- valid ends are above every negative position
above-start : (p : ℤ) (q : ℕ) (es : List ℤ) → lt_z p (pos 0) ≡ true → RisingEnds q es → 0 ≡ first_end_above p es
unfolding first_end_above first_where
above-start p q [] t r = refl
above-start (pos n) q (e ∷ es) t r = let z : ⊥ = omega (arith, ltb-true n 0 t) in absurd z
above-start (negsuc n) q (e ∷ es) t r = rw r.0

pub above_negative : (p : ℤ) (es : List ℤ) → lt_z p (pos 0) ≡ true → ends_valid es ≡ None → 0 ≡ first_end_above p es
above_negative p es t v = above-start p 0 es t (rising es v)

-- ---- the halving: the index is from `low` up to `low + size`

module _ (p : ℕ) (es : List ℤ) where
  pub halving_start : Halving p es 0 (length es)
  unfolding first_end_above
  halving_start = record { inside = omega arith; from_low = λ v. omega arith; to_high = λ v. omega (arith, where_within (λ e. lt_z (pos p) e) es) }

module _ {p : ℕ} {es : List ℤ} {low size : ℕ} (s : Halving p es low size) where
  pub halving_end : size ≤ 0 → (low ≤ length es) × (ends_valid es ≡ None → low ≡ first_end_above (pos p) es)
  halving_end h = (omega (arith, s.inside), λ v. omega (arith, s.from_low v, s.to_high v))

  pub halving_inside : 0 < size → low + (size - size / 2) - 1 < length es
  halving_inside h = omega (arith, s.inside)

  module _ (h : 0 < size) (fx : SFits w64 (get_or es (low + (size - size / 2) - 1) (pos 0))) where
    abbrev at : ℕ
    at = low + (size - size / 2) - 1

    -- as the local holds it
    abbrev x : ℤ
    x = to_z w64 (of_z w64 (get_or es at (pos 0)))

    -- where the ends are valid the step tells whether the end is above the position
    told-above : {above : ℕ} → (lt_z x (pos 0) ≡ false → above ≡ cond (lt_z (pos p) x) 1 0) → ends_valid es ≡ None
        → eqb above 0 ≡ le_z (get_or es at (pos 0)) (pos p)
    told-above ea v =
        let e = to_z-of_z fx in
        let m = rising_at 0 es at (rising es v) (halving_inside h) in
        let natural : lt_z x (pos 0) ≡ false = rw (e, m.0) (le-ltb (to_nat (get_or es at (pos 0))) 0 (omega arith)) in
        sym (by-test (lt_z (pos p) x) (λ t. rw (ea natural, t) (rw e at (lt_le (pos p) x t))) (λ t. rw (ea natural, t) (rw e at (lt_le (pos p) x t))))

    pub halving_next : {above next : ℕ} → (lt_z x (pos 0) ≡ false → above ≡ cond (lt_z (pos p) x) 1 0) → next ≡ cond (eqb above 0) (low + (size - size / 2)) low
        → Halving p es next (size / 2)
    halving_next {above} ea e =
        let i = halving_inside h in
        rw e (by-test (eqb above 0)
        (λ t. rw t (record {
          inside = omega (arith, s.inside);
          from_low = λ v. omega (arith, above-past (pos p) es at v i (sym (told-above ea v) ∙ t));
          to_high = λ v. omega (arith, s.to_high v);
        }))
        (λ t. rw t (record {
          inside = omega (arith, s.inside);
          from_low = s.from_low;
          to_high = λ v. omega (arith, above-least (pos p) es at i (sym (told-above ea v) ∙ t));
        })))

-- ---- an end at or above a position: one above the position before it

le_suc : (n : ℕ) (e : ℤ) → le_z (pos (suc n)) e ≡ lt_z (pos n) e
le_suc n (pos e) = refl
le_suc n (negsuc e) = refl

pub least_above : (n : ℕ) (es : List ℤ) → first_end_at_least (pos (suc n)) es ≡ first_end_above (pos n) es
unfolding first_end_above first_where first_end_at_least
least_above n [] = refl
least_above n (e ∷ es) = rw (le_suc n e, least_above n es)

-- a position above 0, and the one before it
pub position-above : (p : ℤ) → le_z p (pos 0) ≡ false → p ≡ pos (suc (to_nat p - 1))
position-above (pos n) t = ap pos (omega (arith, leb-false n 0 t))
position-above (negsuc n) t = cc

pub least_is : (p : ℤ) (es : List ℤ) {q : ℤ} {r : ℕ} → le_z p (pos 0) ≡ false → q ≡ p -ℤ pos 1 → r ≡ first_end_above q es → r ≡ first_end_at_least p es
least_is p es t eq er =
    let m = position-above p t in
    let e : p -ℤ pos 1 ≡ pos (to_nat p - 1) = difference_of {b = 1} m refl (omega arith) ∙ ap pos (omega arith) in
    er ∙ rw (eq, e) (sym (least_above (to_nat p - 1) es) ∙ ap (λ (z : ℤ). first_end_at_least z es) (sym m))

pub before-fits : (p : ℤ) → le_z p (pos 0) ≡ false → SFits w64 p → SFits w64 (p -ℤ pos 1)
before-fits p t f = let m = position-above p t in difference-fits {b = 1} m refl (omega arith) (rw m at f.sfits)

-- valid ends are all above 0
least_start : (p : ℤ) (es : List ℤ) → le_z p (pos 0) ≡ true → RisingEnds 0 es → 0 ≡ first_end_at_least p es
unfolding first_end_at_least first_where
least_start p [] h r = refl
least_start (pos n) (e ∷ es) h r = rw (r.0, le-leb n (to_nat e) (omega (arith, leb-true n 0 h)))
least_start (negsuc n) (e ∷ es) h r = rw r.0

pub least-low : (p : ℤ) (es : List ℤ) → le_z p (pos 0) ≡ true → ends_valid es ≡ None → 0 ≡ first_end_at_least p es
least-low p es h v = least_start p es h (rising es v)

-- ---- among the first ends, up to one at or above the position

front-from : (p : ℤ) (es : List ℤ) (n : ℕ) → n < length es → le_z p (get_or es n (pos 0)) ≡ true → first_end_at_least p (take (suc n) es) ≡ first_end_at_least p es
unfolding first_end_at_least first_where
front-from p [] n h t = let z : ⊥ = omega arith in absurd z
front-from p (e ∷ es) zero h t = rw t
front-from p (e ∷ es) (suc n) h t = by-test (le_z p e) (λ u. rw u) (λ u. rw u (ap suc (front-from p es n (omega arith) t)))

rising-front : (q n : ℕ) (es : List ℤ) → RisingEnds q es → RisingEnds q (take n es)
rising-front q zero es r = tt
rising-front q (suc n) [] r = tt
rising-front q (suc n) (e ∷ es) r = (r.0, r.1, rising-front (to_nat e) n es r.2)

pub least-front : {p : ℤ} (es : List ℤ) (n : ℕ) {r : ℕ} → SFits w64 p → SFits w64 (get_or es (n - 1) (pos 0)) → 0 < n → n ≤ length es
    → le_z (to_z w64 (of_z w64 p)) (to_z w64 (of_z w64 (get_or es (n - 1) (pos 0)))) ≡ true
    → (r ≤ length (take n es)) × (ends_valid (take n es) ≡ None → r ≡ first_end_at_least (to_z w64 (of_z w64 p)) (take n es))
    → (r ≤ length es) × (ends_valid es ≡ None → r ≡ first_end_at_least p es)
least-front {p} es n fp fe h k t f =
    let m : n ≡ suc (n - 1) = omega arith in
    let t' = rw (to_z-of_z fp, to_z-of_z fe) at t in
    let q = rw (to_z-of_z fp) at f in (
      omega (arith, q.0, length-take-le n es k),
      λ v. q.1 (rising-valid (take n es) (rising-front 0 n es (rising es v))) ∙ ap (λ (i : ℕ). first_end_at_least p (take i es)) m
          ∙ front-from p es (n - 1) (omega arith) t',
    )
