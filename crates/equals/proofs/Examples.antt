-- Worked examples of `equals`, computed from its definition. A is document 01's: ends 3, 5, 9, values 7, 2, 7.
-- Assumes nothing.
use mathlib.Core.Bool.{Bool, true, false, cond}
use Rattle.std.specs.Prelude.{None}
use mathlib.Core.List.{List, [], ◌∷◌}
use mathlib.Core.Path.{refl}
use lib.IntN.{pos}
use Rattle.column.specs.Paper.{Outcome, answers, counts}
use Rattle.column.specs.Questions.{agree, paired, ends_from, ends_valid}
use Rattle.column.specs.Runs.{Sequence, sequence, runs_of, dense_from, dense}
use Rattle.column.proofs.Rows.{Lines, Row, row, Hold, refused}
use Rattle.equals.specs.Calls.{equals_asked, equals}

abbrev a : Sequence
a = sequence (pos 3 ∷ pos 5 ∷ pos 9 ∷ []) (pos 7 ∷ pos 2 ∷ pos 7 ∷ [])

-- A with its last run split
abbrev split : Sequence
split = sequence (pos 3 ∷ pos 5 ∷ pos 6 ∷ pos 9 ∷ []) (pos 7 ∷ pos 2 ∷ pos 7 ∷ pos 7 ∷ [])

-- A without its last position, and A with another last value
abbrev shorter : Sequence
shorter = sequence (pos 3 ∷ pos 5 ∷ pos 8 ∷ []) (pos 7 ∷ pos 2 ∷ pos 7 ∷ [])

abbrev other : Sequence
other = sequence (pos 3 ∷ pos 5 ∷ pos 9 ∷ []) (pos 7 ∷ pos 2 ∷ pos 8 ∷ [])

abbrev nothing : Sequence
nothing = sequence [] []

abbrev as_test : Outcome Bool → Outcome Lines
as_test o = counts (λ b. (cond b (pos 1) (pos 0) ∷ []) ∷ []) o

abbrev yes : Outcome Lines
yes = as_test (answers true)

abbrev no : Outcome Lines
no = as_test (answers false)

abbrev rows : List Row
rows =
    row (as_test (equals a a)) yes
    ∷ row (as_test (equals a split)) yes
    ∷ row (as_test (equals split a)) yes
    ∷ row (as_test (equals a shorter)) no
    ∷ row (as_test (equals shorter a)) no
    ∷ row (as_test (equals a other)) no
    ∷ row (as_test (equals a nothing)) no
    ∷ row (as_test (equals nothing nothing)) yes
    -- what 3 of both before the ends of either
    ∷ row (as_test (equals (sequence (pos 0 ∷ []) (pos 1 ∷ [])) (sequence (pos 1 ∷ []) []))) (refused 2 (pos 3 ∷ pos 1 ∷ pos 0 ∷ []) None)
    ∷ row (as_test (equals a (sequence (pos 2 ∷ pos 2 ∷ []) (pos 1 ∷ pos 1 ∷ [])))) (refused 4 (pos 1 ∷ []) None)
    ∷ []

pub examples : Hold rows
unfolding agree paired ends_from ends_valid runs_of dense_from dense equals_asked equals
examples = (refl, (refl, (refl, (refl, (refl, (refl, (refl, (refl, (refl, (refl, tt))))))))))
