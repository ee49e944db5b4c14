-- The first "no" of several questions.
-- Assumes nothing.
use Prim.Native.Nat.{ℕ, suc, ◌+◌, ◌≤◌, ◌<◌}
use Rattle.std.specs.Prelude.{Some, None, Result, ⊤, IsErrAnd}
use mathlib.Core.List.{List, [], ◌∷◌, ◌++◌}
use mathlib.Core.Path.{◌≡◌, refl, ap, sym, ◌∙◌}
use native.Mathlib.Numerals.{add-one}
use lib.ListN.{length, get_or, drop, drop_of_length-le}
use lib.Seq.{drop-cons}
use Rattle.column.specs.declared.error.Refusal.{Refusal}
use Rattle.column.specs.Paper.{PaperRefusal, paper}
use Rattle.column.specs.Asking.{Question, shown_asked, first_no, each_from}
use Rattle.column.proofs.Promised.{passed_on}

-- a question by itself
pub alone : (q : Question) → first_no (q ∷ []) ≡ q
alone None = refl
alone (Some r) = refl

-- those after a question, put as one
pub first_rest : (q : Question) (qs : List Question) → first_no (q ∷ first_no qs ∷ []) ≡ first_no (q ∷ qs)
first_rest None qs = alone (first_no qs)
first_rest (Some r) qs = refl

-- the first questions put as one
pub first_several : (ps qs : List Question) → first_no (ps ++ qs) ≡ first_no (first_no ps ∷ qs)
first_several [] qs = refl
first_several (None ∷ ps) qs = first_several ps qs
first_several (Some r ∷ ps) qs = refl

-- the last questions put as one
pub last_several : (ps qs : List Question) → first_no (ps ++ qs) ≡ first_no (ps ++ (first_no qs ∷ []))
last_several [] qs = sym (alone (first_no qs))
last_several (None ∷ ps) qs = last_several ps qs
last_several (Some r ∷ ps) qs = refl

-- ---- "yes" to all is "yes" to each

pub first-yes : (q : Question) (qs : List Question) → first_no (q ∷ qs) ≡ None → q ≡ None
first-yes None qs e = refl
first-yes (Some r) qs e = e

pub rest-yes : (q : Question) (qs : List Question) → first_no (q ∷ qs) ≡ None → first_no qs ≡ None
rest-yes None qs e = e
rest-yes (Some r) qs e = cc

abbrev pub AllYes : List Question → Type 0
AllYes [] = Unit {0}
AllYes (q ∷ qs) = (q ≡ None) × AllYes qs

pub all_yes : (qs : List Question) → first_no qs ≡ None → AllYes qs
all_yes [] e = tt
all_yes (q ∷ qs) e = (first-yes q qs e, all_yes qs (rest-yes q qs e))

-- ---- a question and those after it, as the code puts them: what is asked later counts only after a "yes"

pub asked-next : {r a b : Question} (q : Question) (qs : List Question) → r ≡ first_no (a ∷ b ∷ []) → a ≡ q → (q ≡ None → b ≡ first_no qs) → r ≡ first_no (q ∷ qs)
asked-next {b = b} None qs e p h = e ∙ rw p (alone b ∙ h refl)
asked-next (Some r) qs e p h = e ∙ rw p

pub asked-last : {r a b : Question} (p : Question) {q : Question} → r ≡ first_no (a ∷ b ∷ []) → a ≡ p → (p ≡ None → b ≡ q) → r ≡ first_no (p ∷ q ∷ [])
asked-last p {q} e h k = asked-next p (q ∷ []) e h (λ y. k y ∙ sym (alone q))

-- a "no" to the question that comes next, and what is asked after a "yes"; the same of several questions that the code puts as one
pub ends_at : (r : Result ⊤ Refusal) (e : Refusal) {q : Question} (qs : List Question) → IsErrAnd r (λ (y : Refusal). y ≡ e) → Some (paper e) ≡ q
    → shown_asked r ≡ first_no (q ∷ qs)
ends_at r e qs h f = rw (sym f) (ap shown_asked (passed_on r e h))

pub ends_within : (r : Result ⊤ Refusal) (e : Refusal) (ps qs : List Question) → IsErrAnd r (λ (y : Refusal). y ≡ e) → Some (paper e) ≡ first_no ps
    → shown_asked r ≡ first_no (ps ++ qs)
ends_within r e ps qs h f = ends_at r e qs h f ∙ sym (first_several ps qs)

pub goes_on : {r q : Question} (qs : List Question) → None ≡ q → r ≡ first_no qs → r ≡ first_no (q ∷ qs)
goes_on qs h e = rw (sym h) e

pub goes_on_after : {r : Question} (ps qs : List Question) → None ≡ first_no ps → r ≡ first_no qs → r ≡ first_no (ps ++ qs)
goes_on_after ps qs h e = goes_on qs h e ∙ sym (first_several ps qs)

-- ---- a question put to each entry, at the entry that comes next

module _ {A : Type 0} (q : ℕ → A → Question) (i : ℕ) (xs : List A) (d : A) where
  pub each_next : i < length xs → q i (get_or xs i d) ≡ None → each_from q i (drop i xs) ≡ each_from q (i + 1) (drop (i + 1) xs)
  unfolding each_from
  each_next h e = rw (add-one, drop-cons xs i d, e) (alone (each_from q (suc i) (drop (suc i) xs)))

  pub each-refused : {r : PaperRefusal} → i < length xs → q i (get_or xs i d) ≡ Some r → each_from q i (drop i xs) ≡ Some r
  unfolding each_from
  each-refused h e = rw (drop-cons xs i d, e)

  pub each-end : length xs ≤ i → each_from q i (drop i xs) ≡ None
  unfolding each_from
  each-end h = rw drop_of_length-le
