-- The walk over the segments of many columns, from their first runs on: `done` are the segments so far, and `end` is where the next one ends.
-- Assumes nothing.
use Prim.Native.Nat.{ℕ, zero, suc, ◌+◌, ◌-◌, ◌≤◌, ◌<◌, ◌^◌}
use Rattle.std.specs.Prelude.{Some, None}
use mathlib.Core.List.{List, [], ◌∷◌, ◌++◌, map}
use mathlib.Core.Path.{◌≡◌, refl, ap, ap₂, sym, ◌∙◌}
use native.Mathlib.Omega.{arith}
use lib.IntN.{ℤ, pos}
use lib.Seq.{length-take-le}
use lib.ListN.{length, take, replicate, length-map, length-replicate}
use borrow.Author.Tests.{lt-ltb, le-ltb, ne_eqb}
use Rattle.column.specs.Lists.{total, parts}
use Rattle.column.specs.Questions.{ends_valid, offsets_valid}
use Rattle.column.specs.Runs.{to_nat}
use Rattle.column.proofs.Ends.{rising}
use Rattle.column.proofs.Flattened.{AllValid, offsets-some, length-parts, total-parts, sequences-told}
use Rattle.plan.specs.Calls.{Place, Segment, stepped_on, least_end, rests, indexes, stepped, first_places, segments}
use Rattle.plan.specs.Workers.{Steps, spent}
use Rattle.plan.proofs.Listing.{Listing, segment_at, list_start, list_next, list_end, step_less, left-first, segments-first}
use Rattle.plan.proofs.Segments.{left}
use Rattle.many.specs.Workers.{places_for, places_of, Within, end_found, Placed, Stepped, Walkable}
use Rattle.many.proofs.Places.{places-again, indexes-places, placed-paired, placed-next}

-- ---- columns at their first runs

abbrev pub ends_of_parts : List ℕ → List ℤ → List (List ℕ)
ends_of_parts os es = map (map to_nat) (parts os es)

first-places : (ess : List (List ℤ)) → places_for (replicate (length ess) 0) ess ≡ first_places (map (map to_nat) ess)
first-places [] = refl
first-places (es ∷ ess) = ap {B = List Place} (λ ps. record { index = 0; rest = map to_nat es } ∷ ps) (first-places ess)

first-within : (ess : List (List ℤ)) → Within (replicate (length ess) 0) ess
first-within [] = tt
first-within (es ∷ ess) = (omega arith, first-within ess)

-- the first entries of an array of zeros
pub take-zeros : (n m : ℕ) → n ≤ m → ◌≡◌ {A = List ℕ} (take n (replicate m 0)) (replicate n 0)
take-zeros zero m h = refl
take-zeros (suc n) zero h = let z : ⊥ = omega arith in absurd z
take-zeros (suc n) (suc m) h = ap {B = List ℕ} (λ l. 0 ∷ l) (take-zeros n m (omega arith))

pub length_front : {A : Type 0} (x : A) (n m : ℕ) → n ≤ m → length (take n (replicate m x)) ≡ n
length_front x n m h = length-take-le n (replicate m x) (rw (length-replicate m x) h)

-- no run ends at 0
first-stays : (ess : List (List ℤ)) → AllValid ess → stepped 0 (first_places (map (map to_nat) ess)) ≡ first_places (map (map to_nat) ess)
first-stays [] v = refl
first-stays (es ∷ ess) v = ap₂ (λ (p : Place) (ps : List Place). p ∷ ps) (stays es v.0) (first-stays ess v.1)
  where
    stays : (l : List ℤ) → ends_valid l ≡ None → stepped_on 0 0 (map to_nat l) ≡ record { index = 0; rest = map to_nat l }
    stays [] h = refl
    stays (e ∷ l) h = rw (ne_eqb (to_nat e) 0 (λ z. let y : ⊥ = omega (arith, (rising (e ∷ l) h).1) in y))

total-lengths : (ess : List (List ℤ)) → total (map length (map (map to_nat) ess)) ≡ total (map length ess)
total-lengths [] = refl
total-lengths (es ∷ ess) = ap₂ ◌+◌ (length-map es to_nat) (total-lengths ess)

-- they have all runs left
pub first-total : (os : List ℕ) (es : List ℤ) → offsets_valid os (length es) ≡ None → left (first_places (ends_of_parts os es)) ≡ length es
first-total os es o = left-first (ends_of_parts os es) ∙ total-lengths (parts os es) ∙ total-parts os es o

-- ---- the walk

module _ (os : List ℕ) (es : List ℤ) where
  pub record Walk (done : List Segment) (is : List ℕ) (end : ℕ) : Type 0 where
    pub placed : Placed os es is
    pub listing : Listing (first_places (ends_of_parts os es)) done (places_of os es is)
    pub found : least_end (rests (places_of os es is)) ≡ end_found end
    pub small : end < spent → end < 2 ^ 63

  module _ {is : List ℕ} (q : Walkable os es is) where
    zeros : is ≡ replicate (length (parts os es)) 0
    zeros = q.first ∙ ap (λ (n : ℕ). replicate n 0) (sym (length-parts os es))

    pub walk_placed : Placed os es is
    walk_placed = record {
      offsets = q.offsets;
      valid = q.valid;
      count = omega (arith, ap length q.first ∙ length-replicate (length os - 1) 0, offsets-some os (length es) q.offsets);
      within = rw zeros (first-within (parts os es));
    }

    begin : places_of os es is ≡ first_places (ends_of_parts os es)
    begin = ap (λ (l : List ℕ). places_of os es l) zeros ∙ first-places (parts os es)

    pub walk_start : {is' : List ℕ} {end : ℕ} → Stepped os es 0 is is' end → Walk [] is' end
    walk_start {is'} s =
        let p : places_of os es is' ≡ first_places (ends_of_parts os es) =
        ap (λ (l : List ℕ). places_of os es l) s.next ∙ places-again 0 is (parts os es) ∙ ap (stepped 0) begin
        ∙ first-stays (parts os es) (sequences-told os es q.valid) in
        record {
          placed = rw s.next (placed-next 0 walk_placed);
          listing = rw p (list_start (first_places (ends_of_parts os es)));
          found = s.found;
          small = s.small;
        }

module _ {os : List ℕ} {es : List ℤ} {done : List Segment} {is : List ℕ} {end : ℕ} (w : Walk os es done is end) where
  pub walk_none : spent ≤ end → least_end (rests (places_of os es is)) ≡ None
  walk_none h = w.found ∙ rw (le-ltb end spent h)

  pub walk_end : spent ≤ end → segments (ends_of_parts os es) ≡ done
  walk_end h = segments-first (ends_of_parts os es) ∙ list_end w.listing (walk_none h)

  pub walk-indexes : indexes (places_of os es is) ≡ is
  walk-indexes = indexes-places is (parts os es) (placed-paired w.placed)

  module _ (h : end < spent) where
    ends : least_end (rests (places_of os es is)) ≡ Some end
    ends = w.found ∙ rw (lt-ltb end spent h)

    -- there are no more segments than runs
    pub walk-few : length done < length es
    walk-few =
        let s : Steps (places_of os es is) (pos end) (stepped end (places_of os es is)) = record { natural = refl; ends = ends; next = refl } in
        omega (arith, w.listing.few, step_less s, first-total os es w.placed.offsets)

    module _ {is' : List ℕ} {end' : ℕ} (s : Stepped os es end is is' end') where
      pub walk_steps : Steps (places_of os es is) (pos end) (places_of os es is')
      walk_steps = record { natural = refl; ends = ends; next = ap (λ (l : List ℕ). places_of os es l) s.next ∙ places-again end is (parts os es) }

      pub walk-next : Walk os es (done ++ segment_at (places_of os es is) (pos end) ∷ []) is' end'
      walk-next = record {
        placed = rw s.next (placed-next end w.placed);
        listing = list_next w.listing walk_steps;
        found = s.found;
        small = s.small;
      }

      pub walk-less : left (places_of os es is') < left (places_of os es is)
      walk-less = step_less walk_steps
