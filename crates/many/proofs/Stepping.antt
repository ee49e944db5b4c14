-- The loop of a step: columns up to the c-th have gone on, to the indexes `done`, and l is the least of their ends.
-- Assumes nothing.
use Prim.Native.Nat.{ℕ, suc, ◌+◌, ◌≤◌, ◌<◌, ◌^◌, min}
use mathlib.Core.Bool.{cond}
use mathlib.Core.List.{List, [], ◌∷◌, ◌++◌, map}
use mathlib.Core.Path.{◌≡◌, refl, ap, sym, ◌∙◌}
use native.Mathlib.Numerals.{add-one}
use native.Mathlib.Omega.{arith}
use lib.Dec.{eqb}
use lib.IntN.{ℤ}
use lib.ListN.{length, get_or, drop, set, length-append, drop_of_length-le}
use lib.Seq.{drop-cons, set_at, get_or_at, append_snoc}
use Rattle.column.specs.Lists.{parts}
use Rattle.column.specs.Runs.{to_nat}
use Rattle.column.proofs.Parts.{parts-start}
use Rattle.plan.specs.Calls.{Place, least_end, stepped_on, rests, indexes, stepped}
use Rattle.plan.specs.Workers.{place_at, spent, EndAt}
use Rattle.plan.proofs.Segments.{least-cons}
use Rattle.plan.proofs.Step.{ahead}
use Rattle.many.specs.Workers.{column_at, places_of, Placed, ColumnPlaced, Stepped}
use Rattle.many.proofs.Entries.{place_moves, earlier, earlier-next, earlier-small}
use Rattle.many.proofs.Places.{places_from, places-cons, placed-column, places-again}

module _ (os : List ℕ) (es : List ℤ) (m : ℕ) (is : List ℕ) where
  abbrev rest : ℕ → List Place
  rest c = stepped m (places_from os es is c)

  pub record Stepping (is' : List ℕ) (l c : ℕ) : Type 0 where
    pub done : List ℕ
    pub passed : length done ≡ c
    pub places : is' ≡ done ++ drop c is
    pub steps : indexes (stepped m (places_of os es is)) ≡ done ++ indexes (rest c)
    pub least : least_end (rests (stepped m (places_of os es is))) ≡ earlier l (least_end (rests (rest c)))
    pub bounded : l < 2 ^ 64
    pub small : l < spent → l < 2 ^ 63

  pub step_start : Placed os es is → Stepping is spent 0
  step_start q =
      let p = parts-start os es in
      record {
        done = [];
        passed = refl;
        places = refl;
        steps = rw p;
        least = rw p;
        bounded = omega arith;
        small = λ z. let y : ⊥ = omega arith in absurd y;
      }

module _ {os : List ℕ} {es : List ℤ} {m : ℕ} {is is' : List ℕ} {l c : ℕ} (s : Stepping os es m is is' l c) where
  pub step_end : length is ≤ c → Stepped os es m is is' l
  step_end h =
      let none_left : drop c is ≡ [] = drop_of_length-le is {i = c} h in
      let n : is' ≡ indexes (stepped m (places_of os es is)) = (rw none_left at s.places) ∙ sym (rw none_left at s.steps) in
      record {
        next = n;
        found = ap (λ (l : List ℕ). least_end (rests (places_of os es l))) n ∙ ap (λ (ps : List Place). least_end (rests ps)) (places-again m is (parts os es))
            ∙ (rw none_left at s.least);
        small = s.small;
      }

  -- the next column, at its place i
  module _ (q : Placed os es is) (h : c < length is) where
    abbrev column : List ℤ
    column = column_at os es c

    abbrev i : ℕ
    i = get_or is' c 0

    unmoved : i ≡ get_or is c 0
    unmoved = rw (s.places, drop-cons is c 0 h) (get_or_at s.done (get_or is c 0) (drop (suc c) is) 0 c s.passed)

    pub step-placed : ColumnPlaced os es is' c
    step-placed = let p = placed-column q c h in record { offset = p.offset; inside = p.inside; place = rw unmoved p.place; valid = p.valid }

    module _ {e n : ℕ} (a : EndAt (ahead column i) e) (small : m < spent) (en : n ≡ i + cond (eqb e m) 1 0) where
      moved : place_at column n ≡ stepped_on m i (ahead column i)
      moved = place_moves m column i a small en

      abbrev others : List Place
      others = rest os es m is (c + 1)

      step-cons : rest os es m is c ≡ place_at column n ∷ others
      step-cons = ap (stepped m) (places-cons os es is c h (placed-column q c h).offset) ∙ ap {B = List Place} (λ p. p ∷ others) (sym (rw unmoved at moved))

      -- e is its end, and e' the next one
      pub step-next : {e' l' : ℕ} → EndAt (map to_nat (drop n column)) e' → l' ≡ min l e' → Stepping os es m is (set is' c n) l' (c + 1)
      step-next b el =
          record {
            done = s.done ++ n ∷ [];
            passed = simp length-append (omega (arith, s.passed));
            places = rw (s.places, drop-cons is c 0 h, set_at s.done (get_or is c 0) (drop (suc c) is) n c s.passed, add-one c)
                (sym (append_snoc s.done n (drop (suc c) is)));
            steps = s.steps ∙ rw step-cons (sym (append_snoc s.done n (indexes others)));
            least = s.least
                ∙ rw step-cons
                (ap (earlier l) (least-cons (map to_nat (drop n column)) (rests others))
                ∙ earlier-next l (map to_nat (drop n column)) (least_end (rests others)) b s.bounded
                ∙ ap (λ (x : ℕ). earlier x (least_end (rests others))) (sym el));
            bounded = omega (arith, s.bounded);
            small = rw el (earlier-small l (map to_nat (drop n column)) b s.small);
          }
