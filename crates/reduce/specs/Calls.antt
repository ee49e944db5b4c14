-- reduce.rs: the sum, the mean and the variance.
use Rattle.std.specs.Prelude.{ℕ, ◌-◌, ◌^◌, Bool, false, cond, ◌&&◌, List, [], ◌∷◌, map, ◌≡◌, T, eqb, ltb, ℤ, pos, ◌+ℤ◌, ◌-ℤ◌, ◌*ℤ◌, length, Float, Result, Ok, Err}
use Rattle.std.specs.Int.Signed.{le_z, lt_z}
use Rattle.std.specs.Float.{fin, binary64}
use Rattle.std.specs.Float.Ieee.{add, sub, mul, div, to_bits}
use Rattle.std.specs.Float.Ieee.Scale.{finite}
use Rattle.num.specs.Numbers.{residue, wrap}
use Rattle.float.specs.Float.{converted}
use Rattle.column.specs.Asking.{first_no, ◌otherwise◌}
use Rattle.column.specs.Paper.{Outcome, counts, written, outcome_of}
use Rattle.column.specs.Questions.{listed, paired, ends_valid}
use Rattle.column.specs.Runs.{Sequence, Runs, runs, length_of}
use Rattle.reduce.specs.declared.Reduction.{Reduction}
use Rattle.reduce.specs.declared.Reduction.TheVariants.{Whole, Fraction, Nothing}
use Rattle.column.specs.Lent.{Lent, given, after}
use Rattle.column.specs.declared.error.Refusal.{Refusal}

-- a step for each run from position p on, with its length and its value, in "run order"
unfoldable pub fold_runs : {A : Type 0} → (A → ℕ → ℤ → A) → A → ℕ → Runs → A
fold_runs step sofar p [] = sofar
fold_runs step sofar p (r ∷ rs) = fold_runs step (step sofar (r.end - p) r.value) r.end rs

-- ---- sum

-- run × value, exactly
abbrev pub add_weight : ℤ → ℕ → ℤ → ℤ
add_weight sofar run value = sofar +ℤ pos run *ℤ value

-- "`sum` adds run × value modulo 2^64 as signed"
unfoldable pub sum_runs : Runs → ℤ
sum_runs rs = wrap (fold_runs add_weight (pos 0) 0 rs)

unfoldable pub sum : Sequence → Outcome ℤ
sum s = first_no (paired s ∷ ends_valid s.ends ∷ []) otherwise sum_runs (runs s)

-- ---- mean and variance, "each step rounded once" (IEEE 754 binary64)

-- "from +0"
abbrev pub plus_zero : Float
plus_zero = fin false 0 (pos 0)

-- "each product and each sum is rounded once .. with run, value .. converted first"
unfoldable pub add_product : Float → ℕ → ℤ → Float
add_product sofar run value = add binary64 sofar (mul binary64 (converted (pos run)) (converted value))

-- "then divided by the length"
unfoldable pub mean_of : Runs → Float
mean_of rs = div binary64 (fold_runs add_product plus_zero 0 rs) (converted (pos (length_of rs)))

-- "d, the converted value less the mean, squares as d times d, multiplies by the converted run, sums in the same way"
unfoldable pub add_square : Float → Float → ℕ → ℤ → Float
add_square mean sofar run value =
    let d = sub binary64 (converted value) mean in
    add binary64 sofar (mul binary64 (mul binary64 d d) (converted (pos run)))

-- "and divides by the converted length − ddof"
unfoldable pub variance_of : ℤ → Runs → Float
variance_of ddof rs = div binary64 (fold_runs (add_square (mean_of rs)) plus_zero 0 rs) (converted (pos (length_of rs) -ℤ ddof))

-- "Nothing unless length − ddof is 1 to 2^63 − 1 and the length is above 0"
unfoldable pub has_variance : ℤ → Runs → Bool
has_variance ddof rs =
    let left = pos (length_of rs) -ℤ ddof in
    ltb 0 (length_of rs) && le_z (pos 1) left && lt_z left (pos (2 ^ 63))

-- "Codes 0 sum, 1 mean, 2 variance"; the answer "carries the mean it was taken around (a mean carries itself)"
unfoldable pub reduction : ℕ → ℤ → Runs → Reduction
reduction code ddof rs =
    let mean = mean_of rs in
    cond (eqb code 0) (Whole (sum_runs rs))
    (cond (eqb code 1) (cond (ltb 0 (length_of rs)) (Fraction (record { mean = mean; variance = mean })) Nothing)
    (cond (has_variance ddof rs) (Fraction (record { mean = mean; variance = variance_of ddof rs })) Nothing))

-- ---- reduce

-- "a reduction answers Whole, Fraction or Nothing"
unfoldable pub reduce : Sequence → ℕ → ℤ → Outcome Reduction
reduce s code ddof = first_no (listed 0 2 code ∷ paired s ∷ ends_valid s.ends ∷ []) otherwise reduction code ddof (runs s)

-- no float of an answer is a NaN or an infinity
abbrev pub FiniteReduction : Reduction → Type 0
FiniteReduction (Whole z) = Unit {0}
FiniteReduction (Fraction m) = T (finite m.mean) × T (finite m.variance)
FiniteReduction Nothing = Unit {0}

abbrev pub FiniteReduced : Result Reduction Refusal → Type 0
FiniteReduced (Ok a) = FiniteReduction a
FiniteReduced (Err r) = Unit {0}

-- the promise of a call that answers a reduction
pub record Reduces (o : Outcome Reduction) (r : Result Reduction Refusal) : Type 0 where
  pub answer : outcome_of r ≡ o
  pub finite : FiniteReduced r

-- ---- reductions as they are written: "two buffers of one entry per interval"

-- "a kind byte (0 Nothing, 1 Whole, 2 Fraction)"
abbrev pub kind_of : Reduction → ℕ
kind_of Nothing = 0
kind_of (Whole z) = 1
kind_of (Fraction m) = 2

-- "64 bits (0 for Nothing, the whole number, or the float's bits, of a variance without its mean)"
abbrev pub bits_of : Reduction → ℕ
bits_of Nothing = 0
bits_of (Whole z) = residue z
bits_of (Fraction m) = to_bits binary64 m.variance

unfoldable pub all_kinds : List Reduction → List ℕ
all_kinds rs = map kind_of rs

unfoldable pub all_bits : List Reduction → List ℕ
all_bits rs = map bits_of rs

-- the promise of a call that writes reductions into two buffers, each before and after
pub record WrittenReductions (o : Outcome (List Reduction)) (r : Result ℕ Refusal) (k k' b b' : List ℕ) : Type 0 where
  pub answer : outcome_of r ≡ counts length o
  pub kinds : k' ≡ written all_kinds o k
  pub bits : b' ≡ written all_bits o b

-- of the buffers that a call is lent: question 12 is about their lengths
abbrev pub WritesReductions : (List ℕ → Outcome (List Reduction)) → Lent ℕ → Lent ℕ → Result ℕ Refusal → Type 0
WritesReductions call k b r =
    WrittenReductions (call (length (given k) ∷ length (given b) ∷ [])) r (given k) (after k) (given b) (after b)
