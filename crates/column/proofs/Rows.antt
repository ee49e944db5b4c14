-- Worked examples as rows: what a call comes to, as lists of numbers, and what is written down for it.
use Prim.Native.Nat.{ℕ}
use Rattle.std.specs.Prelude.{Option}
use mathlib.Core.List.{List, [], ◌∷◌}
use mathlib.Core.Path.{◌≡◌}
use lib.IntN.{ℤ}
use Rattle.column.specs.Paper.{Outcome, refuses, counts}
use Rattle.column.specs.Runs.{Runs, ends_of, values_of}

abbrev pub Lines : Type 0
Lines = List (List ℤ)

pub record Row : Type 0 where
  pub call : Outcome Lines
  pub paper : Outcome Lines

abbrev pub row : Outcome Lines → Outcome Lines → Row
row call paper = record { call = call; paper = paper }

-- every row holds
abbrev pub Hold : List Row → Type 0
Hold [] = Unit {0}
Hold (r ∷ rs) = (r.call ≡ r.paper) × Hold rs

-- a refusal by its number, its values and its position
abbrev pub refused : ℕ → List ℤ → Option ℕ → Outcome Lines
refused number values position = refuses (record { number = number; values = values; position = position })

-- what a call writes into each buffer
abbrev pub as_runs : Outcome Runs → Outcome Lines
as_runs o = counts (λ rs. ends_of rs ∷ values_of rs ∷ []) o

abbrev pub as_entries : Outcome (List ℤ) → Outcome Lines
as_entries o = counts (λ xs. xs ∷ []) o
