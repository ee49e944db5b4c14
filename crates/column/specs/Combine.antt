-- Columns combined position by position, "the fill standing where a side has ended".
use Rattle.std.specs.Prelude.{ℕ, zero, suc, max, List, [], ◌∷◌, map, ℤ, pos, get_or, Option, Some, None}
use Rattle.column.specs.Asking.{Question}
use Rattle.column.specs.Questions.{Side, side, filled}
use Rattle.column.specs.Runs.{Runs, length_of, dense, encode}

-- a column, and its fill
pub record Column : Type 0 where
  pub fill : Option ℤ
  pub runs : Runs

-- two columns, each with its own fill; many columns with a single fill
abbrev pub two : Option ℤ → Option ℤ → Runs → Runs → List Column
two fa fb a b = record { fill = fa; runs = a } ∷ record { fill = fb; runs = b } ∷ []

abbrev pub many : Option ℤ → List Runs → List Column
many f cs = map (λ (c : Runs). record { fill = f; runs = c }) cs

-- (where a fill is missing no position shows it: 10)
abbrev pub value_of : Option ℤ → ℤ
value_of None = pos 0
value_of (Some v) = v

-- the value of a column at a position
unfoldable pub value_at : ℕ → Column → ℤ
value_at i c = get_or (dense c.runs) i (value_of c.fill)

-- "the longer length", "the greatest length"
unfoldable pub greatest_length : List Column → ℕ
greatest_length [] = 0
greatest_length (c ∷ cs) = max (length_of c.runs) (greatest_length cs)

-- 10, of columns, with the two lengths that it shows
abbrev pub side_of : Column → Side
side_of c = side (pos (length_of c.runs)) c.fill

unfoldable pub all_filled : ℕ → ℕ → List Column → Question
all_filled left right cs = filled (pos left) (pos right) (map side_of cs)

-- "It folds from the first: op(op(v0, v1), v2); one sequence gives its own value, none gives nothing"
abbrev pub fold_from : (ℤ → ℤ → ℤ) → ℤ → List ℤ → ℤ
fold_from op v [] = v
fold_from op v (w ∷ ws) = fold_from op (op v w) ws

abbrev pub folded : (ℤ → ℤ → ℤ) → List ℤ → ℤ
folded op [] = pos 0
folded op (v ∷ vs) = fold_from op v vs

-- what the columns show together at a position
unfoldable pub row_at : (ℤ → ℤ → ℤ) → List Column → ℕ → ℤ
row_at op cs i = folded op (map (value_at i) cs)

-- f at the n positions from p on
unfoldable pub each_position : (ℕ → ℤ) → ℕ → ℕ → List ℤ
each_position f p zero = []
each_position f p (suc n) = f p ∷ each_position f (suc p) n

-- what the columns show together, at every position up to the greatest length
unfoldable pub table : (ℤ → ℤ → ℤ) → List Column → List ℤ
table op cs = each_position (row_at op cs) 0 (greatest_length cs)

-- "the result is merged"
unfoldable pub combined : (ℤ → ℤ → ℤ) → List Column → Runs
combined op cs = encode (table op cs)
