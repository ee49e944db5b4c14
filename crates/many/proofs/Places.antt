-- The places of columns, one for each, and where they stand after a step.
-- Assumes nothing.
use Prim.Native.Nat.{ℕ, zero, suc, ◌+◌, ◌≤◌, ◌<◌}
use Rattle.std.specs.Prelude.{None}
use mathlib.Core.List.{List, [], ◌∷◌}
use mathlib.Core.Path.{◌≡◌, refl, ap, ap₂}
use native.Mathlib.Numerals.{add-one}
use native.Mathlib.Omega.{arith}
use lib.IntN.{ℤ}
use lib.ListN.{length, get_or, drop}
use lib.Seq.{drop-cons}
use Rattle.column.specs.Lists.{parts}
use Rattle.column.specs.Questions.{ends_valid}
use Rattle.column.proofs.Flattened.{AllValid, length-parts, offset-within, sequences-told}
use Rattle.column.proofs.Parts.{parts_at, parts-start, parts-cons, length_part}
use Rattle.plan.specs.Calls.{Place, indexes, stepped}
use Rattle.plan.specs.Workers.{place_at}
use Rattle.many.specs.Workers.{column_at, places_for, places_of, Within, Placed, ColumnPlaced}
use Rattle.many.proofs.Entries.{place-again, place-within}

-- the values of the runs where columns stand, or the fill where one is spent
abbrev pub values_at : List ℕ → List (List ℤ) → ℤ → List ℤ
values_at [] columns fill = []
values_at (i ∷ is) [] fill = []
values_at (i ∷ is) (vs ∷ columns) fill = get_or vs i fill ∷ values_at is columns fill

-- ---- all columns

pub indexes-places : (is : List ℕ) (ess : List (List ℤ)) → length is ≡ length ess → indexes (places_for is ess) ≡ is
indexes-places [] ess h = refl
indexes-places (i ∷ is) [] h = let z : ⊥ = omega arith in absurd z
indexes-places (i ∷ is) (es ∷ ess) h = ap {B = List ℕ} (λ l. i ∷ l) (indexes-places is ess (omega arith))

module _ (m : ℕ) where
  -- the places by the indexes of a step are those of the step
  pub places-again : (is : List ℕ) (ess : List (List ℤ)) → places_for (indexes (stepped m (places_for is ess))) ess ≡ stepped m (places_for is ess)
  places-again [] ess = refl
  places-again (i ∷ is) [] = refl
  places-again (i ∷ is) (es ∷ ess) = ap₂ (λ (p : Place) (ps : List Place). p ∷ ps) (place-again m es i) (places-again is ess)

  step-within : (is : List ℕ) (ess : List (List ℤ)) → Within is ess → Within (indexes (stepped m (places_for is ess))) ess
  step-within [] ess w = tt
  step-within (i ∷ is) [] w = tt
  step-within (i ∷ is) (es ∷ ess) w = (place-within m es i w.0, step-within is ess w.1)

  step-length : (is : List ℕ) (ess : List (List ℤ)) → length is ≡ length ess → length (indexes (stepped m (places_for is ess))) ≡ length is
  step-length [] ess h = refl
  step-length (i ∷ is) [] h = let z : ⊥ = omega arith in absurd z
  step-length (i ∷ is) (es ∷ ess) h = ap suc (step-length is ess (omega arith))

pub placed-paired : {os : List ℕ} {es : List ℤ} {is : List ℕ} → Placed os es is → length is ≡ length (parts os es)
placed-paired {os} {es} q = omega (arith, q.count, length-parts os es)

pub placed-next : (m : ℕ) {os : List ℕ} {es : List ℤ} {is : List ℕ} → Placed os es is → Placed os es (indexes (stepped m (places_of os es is)))
placed-next m {os} {es} {is} q = record {
  offsets = q.offsets;
  valid = q.valid;
  count = omega (arith, q.count, step-length m is (parts os es) (placed-paired q));
  within = step-within m is (parts os es) q.within;
}

-- ---- the columns from the c-th on

module _ (os : List ℕ) (es : List ℤ) (is : List ℕ) (c : ℕ) where
  abbrev pub places_from : List Place
  places_from = places_for (drop c is) (parts_at c os es)

  module _ (h : c < length is) (k : c + 1 < length os) where
    pub places-cons : places_from ≡ place_at (column_at os es c) (get_or is c 0) ∷ places_for (drop (c + 1) is) (parts_at (c + 1) os es)
    places-cons = rw (drop-cons is c 0 h, parts-cons c os es k, add-one c)

    within-cons : Within (drop c is) (parts_at c os es) → (get_or is c 0 ≤ length (column_at os es c)) × Within (drop (c + 1) is) (parts_at (c + 1) os es)
    within-cons w = rw add-one (rw (drop-cons is c 0 h, parts-cons c os es k, add-one c) at w)

    valid-cons : AllValid (parts_at c os es) → (ends_valid (column_at os es c) ≡ None) × AllValid (parts_at (c + 1) os es)
    valid-cons v = rw (parts-cons c os es k) at v

-- ---- a column where all stand at their places

module _ {os : List ℕ} {es : List ℤ} {is : List ℕ} (q : Placed os es is) where
  from-column : (c : ℕ) → c ≤ length is → Within (drop c is) (parts_at c os es) × AllValid (parts_at c os es)
  from-column zero h = let p = parts-start os es in (rw p at q.within, rw p at (sequences-told os es q.valid))
  from-column (suc c) h =
      let r = from-column c (omega arith) in
      let w = (within-cons os es is c (omega arith) (omega (arith, q.count)) r.0).1 in
      let v = (valid-cons os es is c (omega arith) (omega (arith, q.count)) r.1).1 in
      (rw (add-one c) at w, rw (add-one c) at v)

  pub placed-column : (c : ℕ) → c < length is → ColumnPlaced os es is c
  placed-column c h =
      let k : c + 1 < length os = omega (arith, q.count) in
      let r = from-column c (omega arith) in
      let o = offset-within os (length es) c q.offsets k in
      record {
        offset = k;
        inside = o.1;
        place = omega (arith, o.0, length_part (get_or os c 0) (get_or os (c + 1) 0) es o.1, (within-cons os es is c h k r.0).0);
        valid = (valid-cons os es is c h k r.1).0;
      }
