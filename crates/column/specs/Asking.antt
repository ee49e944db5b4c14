-- How questions are put: each is "yes" (nothing) or the refusal that a "no" gives, and the first "no" is the answer.
use Rattle.std.specs.Prelude.{ℕ, suc, Bool, cond, List, [], ◌∷◌, ℤ, Option, Some, None, Result, Ok, Err, ⊤}
use Rattle.column.specs.declared.error.Refusal.{Refusal}
use Rattle.column.specs.Paper.{PaperRefusal, Outcome, answers, refuses, paper}

-- "A call puts the questions that concern it": none is "yes"
abbrev pub Question : Type 0
Question = Option PaperRefusal

-- what a question function of the code shows
abbrev pub shown_asked : Result ⊤ Refusal → Question
shown_asked (Ok x) = None
shown_asked (Err r) = Some (paper r)

-- a "no" with its number and values
abbrev pub refusal : ℕ → List ℤ → Question
refusal number values = Some (record { number = number; values = values; position = None })

infix 25 ◌unless◌
-- a "no" unless the test holds
abbrev pub ◌unless◌ : Question → Bool → Question
q unless holds = cond holds None q

-- "the first "no" gives the number"
abbrev pub first_no : List Question → Question
first_no [] = None
first_no (None ∷ qs) = first_no qs
first_no (Some r ∷ qs) = Some r

infix 20 ◌otherwise◌
-- a call: its questions, and what it answers where all are answered "yes"
abbrev pub ◌otherwise◌ : {X : Type 0} → Question → X → Outcome X
None otherwise x = answers x
Some r otherwise x = refuses r

-- a question put to each entry, from index i on: the lowest "no"
unfoldable pub each_from : {A : Type 0} → (ℕ → A → Question) → ℕ → List A → Question
each_from q i [] = None
each_from q i (x ∷ xs) = first_no (q i x ∷ each_from q (suc i) xs ∷ [])

abbrev pub each : {A : Type 0} → (ℕ → A → Question) → List A → Question
each q xs = each_from q 0 xs

-- "also carry the key or sequence position (`InKey`)"
abbrev pub refused_in_key : ℕ → Question → Question
refused_in_key p None = None
refused_in_key p (Some r) = Some (record { number = r.number; values = r.values; position = Some p })
