-- rle.rs: whether two sequences show the same values.
use Rattle.std.specs.Prelude.{Bool, true, false, ◌&&◌, List, [], ◌∷◌, ℤ}
use Rattle.num.specs.Numbers.{eq_z}
use Rattle.column.specs.Asking.{Question, first_no, ◌otherwise◌}
use Rattle.column.specs.Paper.{Outcome}
use Rattle.column.specs.Questions.{paired, ends_valid}
use Rattle.column.specs.Runs.{Sequence, runs, dense}

-- are two lists of values equal, position by position
abbrev pub same : List ℤ → List ℤ → Bool
same [] [] = true
same [] (y ∷ ys) = false
same (x ∷ xs) [] = false
same (x ∷ xs) (y ∷ ys) = eq_z x y && same xs ys

unfoldable pub equals_asked : Sequence → Sequence → Question
equals_asked a b = first_no (paired a ∷ paired b ∷ ends_valid a.ends ∷ ends_valid b.ends ∷ [])

-- the same values at every position, however the runs are split
unfoldable pub equals : Sequence → Sequence → Outcome Bool
equals a b = equals_asked a b otherwise same (dense (runs a)) (dense (runs b))
