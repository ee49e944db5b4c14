-- A whole and its pieces that are refused by one question, after questions that are the same for all.
-- Assumes nothing.
use Prim.Native.Nat.{ℕ}
use mathlib.Core.Bool.{Bool, true, false, ◌&&◌}
use Rattle.std.specs.Prelude.{Some, None}
use mathlib.Core.List.{List, [], ◌∷◌, map}
use mathlib.Core.Path.{◌≡◌, refl, ap, sym, ◌∙◌}
use native.Mathlib.Omega.{arith}
use lib.Dec.{eqb}
use borrow.Author.Tests.{eq-eqb}
use Rattle.num.proofs.Tests.{both_false}
use Rattle.column.specs.Asking.{Question, first_no, ◌otherwise◌}
use Rattle.column.specs.Lists.{any}
use Rattle.column.specs.Paper.{answers}
use Rattle.cutting.specs.Cut.{refused_with}
use Rattle.cutting.specs.Claim.{Answered, NeverShows}
use Rattle.cutting.proofs.Tests.{any_and, any-map, any_same}

-- is a question answered "no" with the number
abbrev pub no_with : ℕ → Question → Bool
no_with n None = false
no_with n (Some r) = eqb r.number n

refused_no : {X : Type 0} (n : ℕ) (q : Question) (x : X) → refused_with n (first_no (q ∷ []) otherwise x) ≡ no_with n q
refused_no n None x = refl
refused_no n (Some r) x = refl

-- never "no", with no number
never_no : (q : Question) → ((n : ℕ) → no_with n q ≡ false) → q ≡ None
never_no None h = refl
never_no (Some r) h = absurd (let z : ◌≡◌ {A = ℕ} 0 1 = cc (h r.number, eq-eqb r.number r.number refl) in omega arith)

and_false : (b : Bool) (n : ℕ) → b ≡ false → b && eqb 10 n ≡ false
and_false b n e = rw e

and_ten : (b : Bool) → b && eqb 10 10 ≡ false → b ≡ false
and_ten true e = e
and_ten false e = refl

any-same_test : {A : Type 0} (b : Bool) (x : A) (xs : List A) → any (λ (y : A). b) (x ∷ xs) ≡ b
any-same_test true x xs = refl
any-same_test false x [] = refl
any-same_test false x (y ∷ xs) = any-same_test false y xs

module _ {X Z : Type 0} (Joins : X → List X → Type 0) (whole : Question) (x : X) (piece : Z → Question) (value : Z → X)
    (lacks : Bool) (lack : Z → Bool) (z₀ : Z) (zs : List Z)
    (ten : (n : ℕ) → no_with n whole ≡ lacks && eqb 10 n) (tens : (z : Z) (n : ℕ) → no_with n (piece z) ≡ lack z && eqb 10 n)
    (some-piece : any lack (z₀ ∷ zs) ≡ lacks) (joins : Joins x (map value (z₀ ∷ zs))) where
  all-answer : (ys : List Z) → any lack ys ≡ false → map (λ z. first_no (None ∷ piece z ∷ []) otherwise value z) ys ≡ map answers (map value ys)
  all-answer [] e = refl
  all-answer (y ∷ ys) e =
      let (a, b) = both_false (lack y) (any lack ys) e in
      let n : piece y ≡ None = never_no (piece y) (λ n. tens y n ∙ and_false (lack y) n a) in
      rw (n, all-answer ys b)

  whole-answers : (y : X) → first_no (None ∷ whole ∷ []) otherwise x ≡ answers y
      → Answered Joins y (map (λ z. first_no (None ∷ piece z ∷ []) otherwise value z) (z₀ ∷ zs))
  whole-answers y e = go whole refl
    where
      go : (w : Question) → whole ≡ w → Answered Joins y (map (λ z. first_no (None ∷ piece z ∷ []) otherwise value z) (z₀ ∷ zs))
      go None h =
          let f : lacks ≡ false = and_ten lacks (sym (ten 10) ∙ rw h) in
          let q : x ≡ y = cc in
          record { parts = map value (z₀ ∷ zs); every = all-answer (z₀ ∷ zs) (some-piece ∙ f); joins = rw q at joins }
      go (Some r) h = absurd (let z : ◌≡◌ {A = ℕ} 0 1 = cc in omega arith)

  pub never-shows : (q : Question) → NeverShows Joins (first_no (q ∷ whole ∷ []) otherwise x) (map (λ z. first_no (q ∷ piece z ∷ []) otherwise value z) (z₀ ∷ zs))
  never-shows None = record {
    refused = λ n.
        any-map (refused_with n) (λ z. first_no (None ∷ piece z ∷ []) otherwise value z) (z₀ ∷ zs)
        ∙ any_same (λ z. refused_with n (first_no (piece z ∷ []) otherwise value z)) (λ z. lack z && eqb 10 n) (z₀ ∷ zs)
        (λ z. refused_no n (piece z) (value z) ∙ tens z n)
        ∙ any_and lack (eqb 10 n) (z₀ ∷ zs)
        ∙ ap (◌&& eqb 10 n) some-piece
        ∙ sym (refused_no n whole x ∙ ten n);
    answered = whole-answers;
  }
  never-shows (Some r) = record {
    refused = λ n. any-map (refused_with n) (λ z. first_no (Some r ∷ piece z ∷ []) otherwise value z) (z₀ ∷ zs) ∙ any-same_test (eqb r.number n) z₀ zs;
    answered = λ y e. absurd (let z : ◌≡◌ {A = ℕ} 0 1 = cc in omega arith);
  }
