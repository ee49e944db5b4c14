-- The floats of a reduction laid flat are no NaN.
-- Assumes nothing.
use Rattle.std.specs.Prelude.{Result, Ok, Err}
use mathlib.Core.Bool.{not}
use mathlib.Core.Path.{subst, sym}
use lib.Dec.{T}
use lib.Ieee.{is_nan}
use Rattle.column.specs.Paper.{Outcome}
use Rattle.ffi.specs.Reading.{read_reduced, laid_reduced, LaidReduced}
use Rattle.ffi.specs.declared.RlReduced.{RlReduced}
use Rattle.reduce.proofs.Intervals.{finite_no_nan}
use Rattle.reduce.specs.Calls.{FiniteReduced}
use Rattle.reduce.specs.declared.Reduction.{Reduction}
use Rattle.reduce.specs.declared.Reduction.TheVariants.{Whole, Fraction, Nothing}
use Rattle.column.specs.declared.error.Refusal.{Refusal}

abbrev pub NoNans : RlReduced → Type 0
NoNans r = T (not (is_nan r.mean)) × T (not (is_nan r.variance))

laid_no_nans : (r : Result Reduction Refusal) → FiniteReduced r → NoNans (laid_reduced r)
unfolding is_nan
laid_no_nans (Ok (Whole z)) h = (tt, tt)
laid_no_nans (Ok (Fraction m)) (mean, variance) = (finite_no_nan m.mean mean, finite_no_nan m.variance variance)
laid_no_nans (Ok Nothing) h = (tt, tt)
laid_no_nans (Err r) h = (tt, tt)

pub no_nans : {o : Outcome Reduction} {r : RlReduced} → LaidReduced o r → NoNans r
no_nans {r = r} h = subst NoNans (sym h.whole) (laid_no_nans (read_reduced r) h.promise.finite)
