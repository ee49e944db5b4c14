-- The least and the greatest length of columns: one column after another, as natural numbers, and what they tell of 10.
-- Assumes nothing.
use Rattle.std.specs.Prelude.{Option}
use Prim.Native.Nat.{ℕ, ◌+◌, ◌≤◌, ◌<◌, min, max}
use mathlib.Core.Bool.{Bool, true, false, not, ◌&&◌, ◌||◌}
use mathlib.Core.List.{List, [], ◌∷◌, map}
use mathlib.Core.Path.{◌≡◌, refl, ap, sym, ◌∙◌}
use native.Mathlib.Omega.{arith}
use lib.Dec.{ltb}
use lib.IntN.{ℤ, pos}
use lib.ListN.{length, get_or}
use borrow.Author.Tests.{lt-ltb, le-ltb, ltb-true, ltb-false}
use Rattle.num.specs.Numbers.{smaller_of, larger_of}
use Rattle.num.proofs.Tests.{by-test}
use Rattle.column.specs.Asking.{refusal, ◌unless◌}
use Rattle.column.specs.Combine.{many, greatest_length, side_of, all_filled}
use Rattle.column.specs.Lists.{any, part, parts}
use Rattle.column.specs.Questions.{side, is_missing, longest, lacking, filled}
use Rattle.column.specs.Runs.{Runs, length_of, length_of_ends}
use Rattle.column.proofs.Naturals.{smaller_naturals, larger_naturals}
use Rattle.column.proofs.Parts.{parts_at, parts-start, parts-cons, parts-end}
use Rattle.plan.proofs.Fills.{longest-sides}
use Rattle.zip_many.specs.Calls.{least_length}
use Rattle.zip_many.specs.Workers.{least_from, greatest_from, from_first, LengthsOf}

-- ---- the loop: l and g are the least and the greatest of the columns before the c-th

module _ (os : List ℕ) (es : List ℤ) where
  abbrev ahead : ℕ → List ℤ
  ahead c = map length_of_ends (parts_at c os es)

  abbrev length_at : ℕ → ℤ
  length_at c = length_of_ends (part (get_or os c 0) (get_or os (c + 1) 0) es)

  ahead-cons : (c : ℕ) → c + 1 < length os → ahead c ≡ length_at c ∷ ahead (c + 1)
  ahead-cons c h = ap (map length_of_ends) (parts-cons c os es h)

  pub record Ranging (l g : ℤ) (c : ℕ) : Type 0 where
    pub least : from_first least_from (map length_of_ends (parts os es)) ≡ least_from l (ahead c)
    pub greatest : from_first greatest_from (map length_of_ends (parts os es)) ≡ greatest_from g (ahead c)

  pub ranging_none : length os < 2 → LengthsOf (map length_of_ends (parts os es)) (record { least = pos 0; greatest = pos 0 })
  ranging_none h =
      let n : parts os es ≡ [] = parts-start os es ∙ parts-end 0 os es (omega arith) in
      record { least = rw n; greatest = rw n }

  pub ranging_start : {l g : ℤ} → 2 ≤ length os → l ≡ length_at 0 → g ≡ length_at 0 → Ranging l g 1
  ranging_start h el eg =
      let n : map length_of_ends (parts os es) ≡ length_at 0 ∷ ahead 1 = ap (map length_of_ends) (parts-start os es) ∙ ahead-cons 0 (omega arith) in
      record { least = rw (n, el); greatest = rw (n, eg) }

  module _ {l g : ℤ} {c : ℕ} (r : Ranging l g c) where
    pub ranging_next : {x l' g' : ℤ} → c + 1 < length os → x ≡ length_at c → l' ≡ smaller_of l x → g' ≡ larger_of g x → Ranging l' g' (c + 1)
    ranging_next h ex el eg =
        record {
          least = r.least ∙ ap (least_from l) (ahead-cons c h) ∙ rw (el, ex);
          greatest = r.greatest ∙ ap (greatest_from g) (ahead-cons c h) ∙ rw (eg, ex);
        }

    pub ranging_end : length os ≤ c + 1 → LengthsOf (map length_of_ends (parts os es)) (record { least = l; greatest = g })
    ranging_end h = let n = parts-end c os es h in record { least = sym (rw n at r.least); greatest = sym (rw n at r.greatest) }

or_false : (t : Bool) → t || false ≡ t
or_false true = refl
or_false false = refl

-- ---- as natural numbers

abbrev numbers : List Runs → List ℤ
numbers cs = map (λ (c : Runs). pos (length_of c)) cs

least-from : (l : ℕ) (c : Runs) (cs : List Runs) → least_from (pos l) (numbers (c ∷ cs)) ≡ pos (min l (least_length (c ∷ cs)))
least-from l c [] = smaller_naturals l (length_of c)
least-from l c (d ∷ cs) =
    let n : min (min l (length_of c)) (least_length (d ∷ cs)) ≡ min l (min (length_of c) (least_length (d ∷ cs))) = omega arith in
    ap (λ (m : ℤ). least_from m (numbers (d ∷ cs))) (smaller_naturals l (length_of c)) ∙ least-from (min l (length_of c)) d cs ∙ ap pos n

pub least_is : (cs : List Runs) → from_first least_from (numbers cs) ≡ pos (least_length cs)
least_is [] = refl
least_is (c ∷ []) = refl
least_is (c ∷ d ∷ cs) = least-from (length_of c) d cs

module _ (fill : Option ℤ) where
  greatest-from : (l : ℕ) (cs : List Runs) → greatest_from (pos l) (numbers cs) ≡ pos (max l (greatest_length (many fill cs)))
  unfolding greatest_length
  greatest-from l [] = let n : l ≡ max l 0 = omega arith in ap pos n
  greatest-from l (c ∷ cs) =
      let n : max (max l (length_of c)) (greatest_length (many fill cs)) ≡ max l (max (length_of c) (greatest_length (many fill cs))) = omega arith in
      ap (λ (m : ℤ). greatest_from m (numbers cs)) (larger_naturals l (length_of c)) ∙ greatest-from (max l (length_of c)) cs ∙ ap pos n

  pub greatest_is : (cs : List Runs) → from_first greatest_from (numbers cs) ≡ pos (greatest_length (many fill cs))
  unfolding greatest_length
  greatest_is [] = refl
  greatest_is (c ∷ cs) = greatest-from (length_of c) cs

  -- ---- 10, of many columns with a single fill: the shortest and the longest stand for all

  least_le : (cs : List Runs) → least_length cs ≤ greatest_length (many fill cs)
  unfolding greatest_length
  least_le [] = omega arith
  least_le (c ∷ []) = omega arith
  least_le (c ∷ d ∷ cs) = omega (arith, least_le (d ∷ cs))

  abbrev below : ℕ → Runs → Bool
  below n c = ltb (length_of c) n

  lacking_is : (n : ℕ) (cs : List Runs) → lacking (pos n) (map side_of (many fill cs)) ≡ any (below n) cs && is_missing fill
  lacking_is n [] = refl
  lacking_is n (c ∷ cs) = rw (lacking_is n cs) (joined (below n c) (any (below n) cs) (is_missing fill))
    where
      joined : (s t m : Bool) → (s && m) || (t && m) ≡ (s || t) && m
      joined true true true = refl
      joined true true false = refl
      joined true false true = refl
      joined true false false = refl
      joined false t m = refl

  below_is : (n : ℕ) (c : Runs) (cs : List Runs) → any (below n) (c ∷ cs) ≡ ltb (least_length (c ∷ cs)) n
  below_is n c [] = or_false (below n c)
  below_is n c (d ∷ cs) =
      rw (below_is n d cs)
      (by-test (below n c)
      (λ t. let h = ltb-true (length_of c) n t in rw (t, lt-ltb (min (length_of c) (least_length (d ∷ cs))) n (omega arith)))
      (λ t. let h = ltb-false (length_of c) n t in
      by-test (ltb (least_length (d ∷ cs)) n)
      (λ u. let k = ltb-true (least_length (d ∷ cs)) n u in rw (t, u, lt-ltb (min (length_of c) (least_length (d ∷ cs))) n (omega arith)))
      (λ u. let k = ltb-false (least_length (d ∷ cs)) n u in rw (t, u, le-ltb (min (length_of c) (least_length (d ∷ cs))) n (omega arith)))))

  shortest_is : (cs : List Runs) → any (below (greatest_length (many fill cs))) cs ≡ ltb (least_length cs) (greatest_length (many fill cs))
  unfolding greatest_length
  shortest_is [] = refl
  shortest_is (c ∷ cs) = below_is (greatest_length (many fill (c ∷ cs))) c cs

  pub many-filled : (cs : List Runs) {x y : ℤ} → x ≡ pos (least_length cs) → y ≡ pos (greatest_length (many fill cs))
      → filled x y (side x fill ∷ side y fill ∷ []) ≡ all_filled (least_length cs) (greatest_length (many fill cs)) (many fill cs)
  unfolding filled all_filled
  many-filled cs ex ey =
      let l = least_length cs in
      let g = greatest_length (many fill cs) in
      let m : max l (max g 0) ≡ g = omega (arith, least_le cs) in
      let two : longest (side (pos l) fill ∷ side (pos g) fill ∷ []) ≡ pos g = rw (larger_naturals g 0, larger_naturals l (max g 0)) (ap pos m) in
      rw (ex, ey, two, longest-sides (many fill cs), lacking_is g cs, shortest_is cs, le-ltb g g (omega arith))
      (ap (λ (b : Bool). refusal 10 (pos l ∷ pos g ∷ []) unless not b) (or_false (ltb l g && is_missing fill)))
