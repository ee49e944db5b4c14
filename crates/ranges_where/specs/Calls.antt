-- transform.rs: the ranges of positions whose values pass.
use Rattle.std.specs.Prelude.{ℕ, cond, List, [], ◌∷◌, map, ◌≡◌, ℤ, pos, length, Result}
use Rattle.num.specs.Numbers.{eq_z, operation}
use Rattle.column.specs.Asking.{Question, first_no, ◌otherwise◌}
use Rattle.column.specs.Paper.{Outcome, counts, written, outcome_of}
use Rattle.column.specs.Questions.{listed, sequence_asked}
use Rattle.column.specs.Runs.{Sequence, Runs, runs, dense, encode}
use Rattle.column.specs.Lent.{Lent, given, after}
use Rattle.column.specs.declared.error.Refusal.{Refusal}

-- the positions from start up to end
pub record Range : Type 0 where
  pub start : ℕ
  pub end : ℕ

-- the runs of value 1, as ranges
unfoldable pub ranges_from : ℕ → Runs → List Range
ranges_from p [] = []
ranges_from p (r ∷ rs) = cond (eq_z r.value (pos 1)) (record { start = p; end = r.end } ∷ ranges_from r.end rs) (ranges_from r.end rs)

-- "(value op number) and joins touching ranges"
unfoldable pub ranges_of : ℕ → ℤ → Runs → List Range
ranges_of code number rs = ranges_from 0 (encode (map (λ v. operation code v number) (dense rs)))

-- "takes code 7 or 8 .. n starts and n ends"
unfoldable pub ranges_where_asked : Sequence → ℕ → List ℕ → Question
ranges_where_asked s code buffers = first_no (listed 7 8 code ∷ sequence_asked s (length s.ends) buffers ∷ [])

unfoldable pub ranges_where : Sequence → ℕ → ℤ → List ℕ → Outcome (List Range)
ranges_where s code number buffers = ranges_where_asked s code buffers otherwise ranges_of code number (runs s)

-- as they are written
unfoldable pub range_starts : List Range → List ℤ
range_starts rs = map (λ (r : Range). pos r.start) rs

unfoldable pub range_ends : List Range → List ℤ
range_ends rs = map (λ (r : Range). pos r.end) rs

-- the promise: starts and ends, each buffer before and after
pub record WrittenRanges (o : Outcome (List Range)) (r : Result ℕ Refusal) (s s' e e' : List ℤ) : Type 0 where
  pub answer : outcome_of r ≡ counts length o
  pub starts : s' ≡ written range_starts o s
  pub ends : e' ≡ written range_ends o e

-- of the buffers that a call is lent: question 12 is about their lengths
abbrev pub WritesRanges : (List ℕ → Outcome (List Range)) → Lent ℤ → Lent ℤ → Result ℕ Refusal → Type 0
WritesRanges call s e r =
    WrittenRanges (call (length (given s) ∷ length (given e) ∷ [])) r (given s) (after s) (given e) (after e)
