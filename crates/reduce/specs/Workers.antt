-- What the workers leave and require.
use Rattle.std.specs.Prelude.{ℕ, ◌+◌, ◌-◌, ◌≤◌, ◌<◌, ◌^◌, true, false, cond, ◌&&◌, List, [], ◌∷◌, ◌++◌, map, ◌≡◌, eqb, leb, ℤ, pos, nat_abs, ◌+ℤ◌}
use Rattle.std.specs.Prelude.{◌-ℤ◌, ◌*ℤ◌, length, get_or, take, drop, Float, None}
use Rattle.std.specs.Int.Signed.{le_z, lt_z}
use Rattle.std.specs.Float.{binary64}
use Rattle.std.specs.Float.Ieee.{div}
use Rattle.std.specs.Int.{w64}
use Rattle.std.proofs.Common.{SFits}
use Rattle.num.specs.Numbers.{wrap}
use Rattle.float.specs.Float.{converted, Within}
use Rattle.column.specs.Asking.{Question, refusal, ◌unless◌}
use Rattle.column.specs.Questions.{ends_from}
use Rattle.column.specs.Runs.{Run, Runs, to_nat, runs_of, last_from, length_of_ends, over}
use Rattle.column.specs.Workers.{RisingEnds}
use Rattle.slice.specs.declared.inner.search.TouchedRuns.{TouchedRuns}
use Rattle.reduce.specs.declared.inner.WindowReduction.{WindowReduction}
use Rattle.reduce.specs.declared.Reduction.{Reduction}
use Rattle.reduce.specs.declared.Reduction.TheVariants.{Fraction, Nothing}
use Rattle.reduce.specs.Calls.{fold_runs, add_product, add_square, plus_zero, reduction, FiniteReduction, all_kinds, all_bits}

-- ---- runs passed one after another

-- the first `runs` runs are passed: their ends rise from p on, up to `end`, and their steps come to `total`, which has a property
pub record Walked {A : Type 0} (step : A → ℕ → ℤ → A) (P : A → Type 0) (first : A) (p : ℕ) (es vs : List ℤ) (runs : ℕ) (end : ℤ) (total : A) : Type 0 where
  pub inside : runs ≤ length es
  pub rising : RisingEnds p (take runs es)
  pub last : end ≡ last_from (pos p) (take runs es)
  pub folded : total ≡ fold_runs step first p (runs_of (take runs es) (take runs vs))
  pub kept : P total

-- and the next end, if there is one, does not rise
pub record Stopped {A : Type 0} (step : A → ℕ → ℤ → A) (P : A → Type 0) (first : A) (p : ℕ) (es vs : List ℤ) (runs : ℕ) (end : ℤ) (total : A) : Type 0 where
  pub walked : Walked step P first p es vs runs end total
  pub stopped : runs < length es → lt_z end (get_or es runs (pos 0)) ≡ false

-- a sum modulo 2^64 at each step
abbrev pub add_wrapped : ℤ → ℕ → ℤ → ℤ
add_wrapped sofar run value = wrap (sofar +ℤ pos run *ℤ value)

abbrev pub Any : ℤ → Type 0
Any total = Unit {0}

abbrev pub WalkedSum : ℕ → List ℤ → List ℤ → ℕ → ℤ → ℤ → Type 0
WalkedSum = Walked add_wrapped Any (pos 0)

abbrev pub StoppedSum : ℕ → List ℤ → List ℤ → ℕ → ℤ → ℤ → Type 0
StoppedSum = Stopped add_wrapped Any (pos 0)

-- the products of a mean
abbrev pub WalkedProducts : ℕ → List ℤ → List ℤ → ℕ → ℤ → Float → Type 0
WalkedProducts = Walked add_product (Within 180) plus_zero

abbrev pub StoppedProducts : ℕ → List ℤ → List ℤ → ℕ → ℤ → Float → Type 0
StoppedProducts = Stopped add_product (Within 180) plus_zero

-- the squares of a variance around a mean
abbrev pub WalkedSquares : Float → ℕ → List ℤ → List ℤ → ℕ → ℤ → Float → Type 0
WalkedSquares mean = Walked (add_square mean) (Within 480) plus_zero

-- a run that rises, whose length and value are converted with nothing rounded
pub record ExactRun (before end value : ℤ) : Type 0 where
  pub rises : lt_z before end ≡ true
  pub short : nat_abs (end -ℤ before) ≤ 2 ^ 53
  pub small : nat_abs value ≤ 2 ^ 53

-- the first k runs, from p on
abbrev pub ExactUpTo : ℕ → ℕ → List ℤ → List ℤ → Type 0
ExactUpTo k p es vs = (j : ℕ) → j < k → ExactRun (last_from (pos p) (take j es)) (get_or es j (pos 0)) (get_or vs j (pos 0))

pub record ExactProducts (p : ℕ) (es vs : List ℤ) (runs : ℕ) (end : ℤ) (total : Float) : Type 0 where
  pub walked : WalkedProducts p es vs runs end total
  pub exact : ExactUpTo runs p es vs

pub record AllProducts (p : ℕ) (es vs : List ℤ) (runs : ℕ) (end : ℤ) (total : Float) (exact : ℕ) : Type 0 where
  pub stopped : StoppedProducts p es vs runs end total
  pub inside : exact ≤ length es
  pub exactly : ExactUpTo exact p es vs

-- runs whose ends rise, the first of which are exact, and a mean to take squares around
pub record AroundMean (p : ℕ) (es vs : List ℤ) (mean : Float) (exact : ℕ) : Type 0 where
  pub paired : length es ≡ length vs
  pub rising : RisingEnds p es
  pub bounded : Within 180 mean
  pub inside : exact ≤ length es
  pub exactly : ExactUpTo exact p es vs

-- ---- the runs of a window

-- all but its last run, which alone may be cut
abbrev pub body_of : TouchedRuns → List ℤ → List ℤ
body_of t xs = take (t.count - 1) (drop t.first xs)

-- its ends: those of the touched runs, the last cut to the end of the window
unfoldable pub window_ends : TouchedRuns → List ℤ → List ℤ
window_ends t es = cond (eqb t.count 0) [] (body_of t es ++ t.end ∷ [])

unfoldable pub window_values : TouchedRuns → List ℤ → List ℤ
window_values t vs = take t.count (drop t.first vs)

-- 4 of those ends, from the start of the window on: do the ends of all `runs` runs rise?
abbrev pub ends_pass : ℕ → ℕ → Question
ends_pass runs count = refusal 4 (pos runs ∷ []) unless leb count runs

-- a whole sequence as a window
abbrev pub whole_of : List ℤ → TouchedRuns
whole_of es = record { first = 0; count = length es; start = pos 0; end = length_of_ends es }

-- the runs are inside the sequence, and the window starts at a position
pub record Window (t : TouchedRuns) (es vs : List ℤ) : Type 0 where
  pub paired : length es ≡ length vs
  pub inside : t.first + t.count ≤ length es
  pub natural : t.start ≡ pos (to_nat t.start)
  pub fitting : SFits w64 (t.end -ℤ t.start)

-- what the steps over the runs of a window come to, where their ends rise
pub record Totalled {A : Type 0} (step : A → ℕ → ℤ → A) (P : A → Type 0) (first : A) (t : TouchedRuns) (es vs : List ℤ) (runs : ℕ) (total : A) : Type 0 where
  pub asked : ends_from 0 t.start (window_ends t es) ≡ ends_pass runs t.count
  pub folded : ends_from 0 t.start (window_ends t es) ≡ None → total ≡ fold_runs step first (to_nat t.start) (runs_of (window_ends t es) (window_values t vs))
  pub kept : P total

abbrev pub SumOf : TouchedRuns → List ℤ → List ℤ → ℕ → ℤ → Type 0
SumOf = Totalled add_wrapped Any (pos 0)

pub record ProductsOf (t : TouchedRuns) (es vs : List ℤ) (runs : ℕ) (total : Float) (exact : ℕ) : Type 0 where
  pub totalled : Totalled add_product (Within 180) plus_zero t es vs runs total
  pub inside : exact ≤ t.count - 1
  pub exactly : ExactUpTo exact (to_nat t.start) (body_of t es) (body_of t vs)

-- a window of one run or more whose ends rise, and what is known of a mean to take squares around
pub record Squarable (t : TouchedRuns) (es vs : List ℤ) (mean : Float) (exact : ℕ) : Type 0 where
  pub window : Window t es vs
  pub some : 0 < t.count
  pub rising : ends_from 0 t.start (window_ends t es) ≡ None
  pub bounded : Within 180 mean
  pub inside : exact ≤ t.count - 1
  pub exactly : ExactUpTo exact (to_nat t.start) (body_of t es) (body_of t vs)

pub record SquaresOf (mean : Float) (t : TouchedRuns) (es vs : List ℤ) (total : Float) : Type 0 where
  pub folded : total ≡ fold_runs (add_square mean) plus_zero (to_nat t.start) (runs_of (window_ends t es) (window_values t vs))
  pub kept : Within 480 total

-- what a variance is divided by, or 0 where there is none
unfoldable pub divisor_of : ℤ → ℤ → ℤ
divisor_of length ddof = cond (le_z (pos 1) (length -ℤ ddof) && lt_z (length -ℤ ddof) (pos (2 ^ 63))) (length -ℤ ddof) (pos 0)

-- the variance of a window around a mean
pub record VarianceBy (divisor : ℤ) (t : TouchedRuns) (es vs : List ℤ) (mean : Float) (r : Reduction) : Type 0 where
  pub none_by_zero : divisor ≡ pos 0 → r ≡ Nothing
  pub answer : (divisor ≡ pos 0 → ⊥) → r ≡ Fraction (record {
    mean = mean;
    variance = div binary64 (fold_runs (add_square mean) plus_zero (to_nat t.start) (runs_of (window_ends t es) (window_values t vs))) (converted divisor);
  })
  pub finite : FiniteReduction r

-- the runs with their positions counted from x on
unfoldable pub counted_from : ℕ → Runs → Runs
counted_from x rs = map (λ (r : Run). record { end = r.end - x; value = r.value }) rs

abbrev pub window_runs : TouchedRuns → List ℤ → List ℤ → Runs
window_runs t es vs = counted_from (to_nat t.start) (runs_of (window_ends t es) (window_values t vs))

-- a window is reduced, where its ends rise
pub record ReducesWindow (code : ℕ) (ddof : ℤ) (t : TouchedRuns) (es vs : List ℤ) (r : WindowReduction) : Type 0 where
  pub asked : ends_from 0 t.start (window_ends t es) ≡ ends_pass r.runs t.count
  pub answer : ends_from 0 t.start (window_ends t es) ≡ None → r.reduction ≡ reduction code ddof (window_runs t es vs)
  pub finite : ends_from 0 t.start (window_ends t es) ≡ None → FiniteReduction r.reduction

-- ---- of each interval

-- reductions written into the front of two buffers, each before and after, and how many they are
pub record FilledReductions (rs : List Reduction) (k k' b b' : List ℕ) (n : ℕ) : Type 0 where
  pub count : n ≡ length rs
  pub kinds : k' ≡ over (all_kinds rs) k
  pub bits : b' ≡ over (all_bits rs) b
