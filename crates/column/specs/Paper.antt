-- What a call comes to, with document 01's number and values for each error.
use Rattle.std.specs.Prelude.{ℕ, List, [], ◌∷◌, ◌≡◌, ℤ, pos, length, Option, Result, Ok, Err}
use Rattle.column.specs.declared.error.Error.{Error}
use Rattle.column.specs.declared.error.Error.TheVariants.{UnknownCode, LengthMismatch, InvalidOffsets, InvalidEnds, TooMany, NegativeRun, Overflow}
use Rattle.column.specs.declared.error.Error.TheVariants.{DuplicateKey, InvalidInterval, UnequalLength, LengthTooShort, ShortBuffer}
use Rattle.column.specs.declared.error.Refusal.{Refusal}
use Rattle.column.specs.Runs.{Runs, ends_of, values_of, over}
use Rattle.column.specs.Lent.{Lent, given, after}

-- a refusal: its number, its values in the order of document 01, and the key or sequence position that it also carries
pub record PaperRefusal : Type 0 where
  pub number : ℕ
  pub values : List ℤ
  pub position : Option ℕ

-- demand 1: "every call .. either answers or gives the one refusal of document 01"
pub data Outcome (X : Type 0) : Type 0 where
  answers : X → Outcome X
  refuses : PaperRefusal → Outcome X

-- ---- document 01's number and values for each case

abbrev pub number_of : Error → ℕ
number_of (UnknownCode code) = 1
number_of (LengthMismatch what left right) = 2
number_of InvalidOffsets = 3
number_of (InvalidEnds index) = 4
number_of (TooMany number) = 5
number_of (NegativeRun index run) = 6
number_of Overflow = 7
number_of (DuplicateKey position) = 8
number_of (InvalidInterval index start end) = 9
number_of (UnequalLength left right) = 10
number_of (LengthTooShort requested required) = 11
number_of (ShortBuffer which needed given) = 12

abbrev pub shown_by : Error → List ℤ
shown_by (UnknownCode code) = pos code ∷ []
shown_by (LengthMismatch what left right) = pos what ∷ pos left ∷ pos right ∷ []
shown_by InvalidOffsets = []
shown_by (InvalidEnds index) = pos index ∷ []
shown_by (TooMany number) = pos number ∷ []
shown_by (NegativeRun index run) = pos index ∷ run ∷ []
shown_by Overflow = []
shown_by (DuplicateKey position) = pos position ∷ []
shown_by (InvalidInterval index start end) = pos index ∷ start ∷ end ∷ []
shown_by (UnequalLength left right) = left ∷ right ∷ []
shown_by (LengthTooShort requested required) = requested ∷ required ∷ []
shown_by (ShortBuffer which needed given) = pos which ∷ pos needed ∷ pos given ∷ []

abbrev pub paper : Refusal → PaperRefusal
paper r = record { number = number_of r.error; values = shown_by r.error; position = r.in_key }

-- what the answer of a call shows
abbrev pub outcome_of : {X : Type 0} → Result X Refusal → Outcome X
outcome_of (Ok x) = answers x
outcome_of (Err r) = refuses (paper r)

-- ---- what a call returns and leaves, of what it comes to

-- "A call that succeeds returns its counts"
abbrev pub counts : {X Y : Type 0} → (X → Y) → Outcome X → Outcome Y
counts f (answers x) = answers (f x)
counts f (refuses r) = refuses r

-- "A refused call has written nothing"
abbrev pub written : {X A : Type 0} → (X → List A) → Outcome X → List A → List A
written f (answers x) before = over (f x) before
written f (refuses r) before = before

-- the promise of a call that writes runs into two buffers, each before and after
pub record WrittenRuns (o : Outcome Runs) (r : Result ℕ Refusal) (e e' v v' : List ℤ) : Type 0 where
  pub answer : outcome_of r ≡ counts length o
  pub ends : e' ≡ written ends_of o e
  pub values : v' ≡ written values_of o v

-- of the buffers that a call is lent: question 12 is about their lengths
abbrev pub WritesRuns : (List ℕ → Outcome Runs) → Lent ℤ → Lent ℤ → Result ℕ Refusal → Type 0
WritesRuns call e v r =
    WrittenRuns (call (length (given e) ∷ length (given v) ∷ [])) r (given e) (after e) (given v) (after v)

-- and of one that writes entries into a single buffer
pub record WrittenEntries {A : Type 0} (o : Outcome (List A)) (r : Result ℕ Refusal) (b b' : List A) : Type 0 where
  pub answer : outcome_of r ≡ counts length o
  pub entries : b' ≡ written (λ xs. xs) o b

-- of the buffers that a call is lent: question 12 is about their lengths
abbrev pub WritesEntries : {A : Type 0} → (List ℕ → Outcome (List A)) → Lent A → Result ℕ Refusal → Type 0
WritesEntries call b r =
    WrittenEntries (call (length (given b) ∷ [])) r (given b) (after b)
