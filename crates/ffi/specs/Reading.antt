-- What the numbers of the C interface say: a struct is read as the answer of the Rattle call, and every field of it is told.
use Rattle.std.specs.Prelude.{ℕ, ◌-◌, Bool, true, false, not, cond, List, [], ◌∷◌, eqb, ◌≡◌, ℤ, pos, get_or, Option, Some, None, Result, Ok, Err, ⊤}
use Rattle.num.specs.Numbers.{residue, signed}
use Rattle.column.specs.declared.error.Error.{Error}
use Rattle.column.specs.declared.error.Error.TheVariants.{UnknownCode, LengthMismatch, InvalidOffsets, InvalidEnds, TooMany, NegativeRun, Overflow}
use Rattle.column.specs.declared.error.Error.TheVariants.{DuplicateKey, InvalidInterval, UnequalLength, LengthTooShort, ShortBuffer}
use Rattle.column.specs.declared.error.Refusal.{Refusal}
use Rattle.column.specs.Paper.{Outcome, number_of, shown_by, outcome_of}
use Rattle.reduce.specs.declared.Reduction.{Reduction}
use Rattle.reduce.specs.declared.Reduction.TheVariants.{Whole, Fraction, Nothing}
use Rattle.reduce.specs.Calls.{plus_zero, kind_of, Reduces}
use Rattle.column.specs.declared.answer.RleBatch.{RleBatch}
use Rattle.many.specs.declared.Planned.{Planned}
use Rattle.slice.specs.declared.Part.{Part}
use Rattle.slice.specs.declared.View.{View}
use Rattle.slice.specs.Calls.{PartOf}
use Rattle.ffi.specs.declared.RlBatched.{RlBatched}
use Rattle.ffi.specs.declared.RlCounted.{RlCounted}
use Rattle.ffi.specs.declared.RlEquality.{RlEquality}
use Rattle.ffi.specs.declared.RlFill.{RlFill}
use Rattle.ffi.specs.declared.RlFound.{RlFound}
use Rattle.ffi.specs.declared.RlGot.{RlGot}
use Rattle.ffi.specs.declared.RlPart.{RlPart}
use Rattle.ffi.specs.declared.RlPlannedMany.{RlPlannedMany}
use Rattle.ffi.specs.declared.RlReduced.{RlReduced}
use Rattle.ffi.specs.declared.RlRefusal.{RlRefusal}
use Rattle.ffi.specs.declared.RlSummed.{RlSummed}
use Rattle.ffi.specs.declared.RlViewed.{RlViewed}

-- ---- reading

-- the refusals from number 1 on, of the three values; an i64 is given by its two's complement bits
abbrev pub numbered : ℕ → ℕ → ℕ → List Error
numbered a b c =
    UnknownCode a
    ∷ LengthMismatch a b c
    ∷ InvalidOffsets
    ∷ InvalidEnds a
    ∷ TooMany a
    ∷ NegativeRun a (signed b)
    ∷ Overflow
    ∷ DuplicateKey a
    ∷ InvalidInterval a (signed b) (signed c)
    ∷ UnequalLength (signed a) (signed b)
    ∷ LengthTooShort (signed a) (signed b)
    ∷ ShortBuffer a b c
    ∷ []

-- the refusal of a number from 1 to 12
unfoldable pub read_error : ℕ → ℕ → ℕ → ℕ → Error
read_error number a b c = get_or (numbered a b c) (number - 1) Overflow

abbrev pub read_in_key : ℕ → ℕ → Option ℕ
read_in_key carried position = cond (eqb carried 0) None (Some position)

abbrev pub read_refusal : RlRefusal → Refusal
read_refusal r = record { error = read_error r.number r.first r.second r.third; in_key = read_in_key r.in_key r.position }

-- number 0 is an answer
abbrev pub read_checked : RlRefusal → Result ⊤ Refusal
read_checked r = cond (eqb r.number 0) (Ok tt) (Err (read_refusal r))

abbrev pub read_counted : RlCounted → Result ℕ Refusal
read_counted r = cond (eqb r.refusal.number 0) (Ok r.count) (Err (read_refusal r.refusal))

abbrev pub read_equality : RlEquality → Result Bool Refusal
read_equality r = cond (eqb r.refusal.number 0) (Ok (not (eqb r.equal 0))) (Err (read_refusal r.refusal))

abbrev pub read_planned_many : RlPlannedMany → Result Planned Refusal
read_planned_many r = cond (eqb r.refusal.number 0) (Ok (record { segments = r.segments; indexes = r.indexes })) (Err (read_refusal r.refusal))

abbrev pub read_found : RlFound → Result (Option ℕ) Refusal
read_found r = cond (eqb r.refusal.number 0) (Ok (cond (eqb r.found 0) None (Some r.index))) (Err (read_refusal r.refusal))

abbrev pub read_got : RlGot → Result (Option ℕ) Refusal
read_got r = cond (eqb r.refusal.number 0) (Ok (cond (eqb r.found 0) None (Some r.count))) (Err (read_refusal r.refusal))

abbrev pub read_viewed : RlViewed → Result View Refusal
read_viewed r =
    cond (eqb r.refusal.number 0) (Ok (record { first = r.first; start = r.start; length = r.length }))
    (Err (read_refusal r.refusal))

abbrev pub read_part : RlPart → Part
read_part r = record { first = r.first; count = r.count }

abbrev pub read_batched : RlBatched → Result RleBatch Refusal
read_batched r = cond (eqb r.refusal.number 0) (Ok (record { keys = r.keys; runs = r.runs })) (Err (read_refusal r.refusal))

abbrev pub read_summed : RlSummed → Result ℤ Refusal
read_summed r = cond (eqb r.refusal.number 0) (Ok r.total) (Err (read_refusal r.refusal))

-- by "a kind byte (0 Nothing, 1 Whole, 2 Fraction)"
abbrev pub read_reduction : RlReduced → Reduction
read_reduction r =
    cond (eqb r.kind 0) Nothing
    (cond (eqb r.kind 1) (Whole r.whole) (Fraction (record { mean = r.mean; variance = r.variance })))

abbrev pub read_reduced : RlReduced → Result Reduction Refusal
read_reduced r = cond (eqb r.refusal.number 0) (Ok (read_reduction r)) (Err (read_refusal r.refusal))

-- and a fill that is not given is missing
abbrev pub read_fill : RlFill → Option ℤ
read_fill f = cond (eqb f.given 0) None (Some f.value)

-- ---- every field

-- a value as 64 bits, 0 where the refusal has fewer values
abbrev pub bits_at : ℕ → Error → ℕ
bits_at i e = residue (get_or (shown_by e) i (pos 0))

abbrev pub carried : Option ℕ → ℕ
carried None = 0
carried (Some p) = 1

abbrev pub place_of : Option ℕ → ℕ
place_of None = 0
place_of (Some p) = p

-- a number with its three values, and the position where there is one
abbrev pub fields : ℕ → ℕ → ℕ → ℕ → Option ℕ → RlRefusal
fields n a b c k = record { number = n; first = a; second = b; third = c; in_key = carried k; position = place_of k }

-- document 01's number, its values and the position
abbrev pub laid_refusal : Refusal → RlRefusal
laid_refusal r = fields (number_of r.error) (bits_at 0 r.error) (bits_at 1 r.error) (bits_at 2 r.error) r.in_key

-- an answer has 0 in every field of the refusal
abbrev pub laid_checked : Result ⊤ Refusal → RlRefusal
laid_checked (Ok x) = fields 0 0 0 0 None
laid_checked (Err r) = laid_refusal r

-- and a refusal the count 0
abbrev pub laid_counted : Result ℕ Refusal → RlCounted
laid_counted (Ok n) = record { refusal = laid_checked (Ok tt); count = n }
laid_counted (Err r) = record { refusal = laid_refusal r; count = 0 }

abbrev pub laid_equality : Result Bool Refusal → RlEquality
laid_equality (Ok true) = record { refusal = laid_checked (Ok tt); equal = 1 }
laid_equality (Ok false) = record { refusal = laid_checked (Ok tt); equal = 0 }
laid_equality (Err r) = record { refusal = laid_refusal r; equal = 0 }

abbrev pub laid_planned_many : Result Planned Refusal → RlPlannedMany
laid_planned_many (Ok p) = record { refusal = laid_checked (Ok tt); segments = p.segments; indexes = p.indexes }
laid_planned_many (Err r) = record { refusal = laid_refusal r; segments = 0; indexes = 0 }

abbrev pub laid_found : Result (Option ℕ) Refusal → RlFound
laid_found (Ok (Some i)) = record { refusal = laid_checked (Ok tt); found = 1; index = i }
laid_found (Ok None) = record { refusal = laid_checked (Ok tt); found = 0; index = 0 }
laid_found (Err r) = record { refusal = laid_refusal r; found = 0; index = 0 }

abbrev pub laid_got : Result (Option ℕ) Refusal → RlGot
laid_got (Ok (Some n)) = record { refusal = laid_checked (Ok tt); found = 1; count = n }
laid_got (Ok None) = record { refusal = laid_checked (Ok tt); found = 0; count = 0 }
laid_got (Err r) = record { refusal = laid_refusal r; found = 0; count = 0 }

abbrev pub laid_viewed : Result View Refusal → RlViewed
laid_viewed (Ok v) = record { refusal = laid_checked (Ok tt); first = v.first; start = v.start; length = v.length }
laid_viewed (Err r) = record { refusal = laid_refusal r; first = 0; start = pos 0; length = pos 0 }

abbrev pub laid_batched : Result RleBatch Refusal → RlBatched
laid_batched (Ok b) = record { refusal = laid_checked (Ok tt); keys = b.keys; runs = b.runs }
laid_batched (Err r) = record { refusal = laid_refusal r; keys = 0; runs = 0 }

abbrev pub laid_summed : Result ℤ Refusal → RlSummed
laid_summed (Ok z) = record { refusal = laid_checked (Ok tt); total = z }
laid_summed (Err r) = record { refusal = laid_refusal r; total = pos 0 }

-- what a reduction does not have is 0, or +0
abbrev pub laid_reduction : RlRefusal → Reduction → RlReduced
laid_reduction x (Whole z) = record { refusal = x; kind = kind_of (Whole z); whole = z; mean = plus_zero; variance = plus_zero }
laid_reduction x (Fraction m) = record { refusal = x; kind = kind_of (Fraction m); whole = pos 0; mean = m.mean; variance = m.variance }
laid_reduction x Nothing = record { refusal = x; kind = kind_of Nothing; whole = pos 0; mean = plus_zero; variance = plus_zero }

-- a refusal has the fields of Nothing
abbrev pub laid_reduced : Result Reduction Refusal → RlReduced
laid_reduced (Ok a) = laid_reduction (laid_checked (Ok tt)) a
laid_reduced (Err r) = laid_reduction (laid_refusal r) Nothing

-- ---- the promises: the Rattle call's own, for the answer that is read, and no field left open

pub record Laid {R A : Type 0} (read : R → A) (lay : A → R) (promised : A → Type 0) (r : R) : Type 0 where
  pub promise : promised (read r)
  pub whole : r ≡ lay (read r)

abbrev pub LaidCheck : Outcome (Unit {0}) → RlRefusal → Type 0
LaidCheck o r = Laid read_checked laid_checked (λ c. outcome_of c ≡ o) r

abbrev pub LaidEquality : Outcome Bool → RlEquality → Type 0
LaidEquality o r = Laid read_equality laid_equality (λ c. outcome_of c ≡ o) r

abbrev pub LaidFound : Outcome (Option ℕ) → RlFound → Type 0
LaidFound o r = Laid read_found laid_found (λ c. outcome_of c ≡ o) r

abbrev pub LaidViewed : Outcome View → RlViewed → Type 0
LaidViewed o r = Laid read_viewed laid_viewed (λ c. outcome_of c ≡ o) r

abbrev pub LaidSum : Outcome ℤ → RlSummed → Type 0
LaidSum o r = Laid read_summed laid_summed (λ c. outcome_of c ≡ o) r

abbrev pub LaidReduced : Outcome Reduction → RlReduced → Type 0
LaidReduced o r = Laid read_reduced laid_reduced (λ c. Reduces o c) r

-- a part has no refusal, and is read field by field
abbrev pub LaidPart : RlPart → Part → List ℤ → Type 0
LaidPart r p vs = PartOf (read_part r) p vs

-- calls that write: the promise is of the buffers, and of the answer that is read
abbrev pub LaidCounted : (Result ℕ Refusal → Type 0) → RlCounted → Type 0
LaidCounted promised r = Laid read_counted laid_counted promised r

abbrev pub LaidPlannedMany : (Result Planned Refusal → Type 0) → RlPlannedMany → Type 0
LaidPlannedMany promised r = Laid read_planned_many laid_planned_many promised r

abbrev pub LaidGot : (Result (Option ℕ) Refusal → Type 0) → RlGot → Type 0
LaidGot promised r = Laid read_got laid_got promised r

abbrev pub LaidBatched : (Result RleBatch Refusal → Type 0) → RlBatched → Type 0
LaidBatched promised r = Laid read_batched laid_batched promised r
