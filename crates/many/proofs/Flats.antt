-- Columns laid flat, as the walk sees them: their ends, and that each is valid.
-- Assumes nothing.
use Prim.Native.Nat.{ℕ}
use Rattle.std.specs.Prelude.{None, Option}
use mathlib.Core.List.{List, [], ◌∷◌, map}
use mathlib.Core.Path.{◌≡◌}
use lib.IntN.{ℤ}
use lib.ListN.{length}
use Rattle.column.specs.Combine.{Column, many}
use Rattle.column.specs.Flat.{flat, columns}
use Rattle.column.specs.Questions.{sequences_valid}
use Rattle.column.specs.Runs.{Runs, to_nat}
use Rattle.column.proofs.All.{All}
use Rattle.column.proofs.Flattened.{columns_by_ends, columns-valid, sequences-told}
use Rattle.column.proofs.Rising.{Valid}
use Rattle.plan.specs.Calls.{ends_in}
use Rattle.plan.proofs.Columns.{ends_in_lem}
use Rattle.many.proofs.Walking.{ends_of_parts}

module _ (os : List ℕ) (es vs : List ℤ) (l : length es ≡ length vs) (v : sequences_valid os es ≡ None) where
  -- their ends
  pub ends-columns : map ends_in (columns (flat os es vs)) ≡ ends_of_parts os es
  ends-columns = columns_by_ends ends_in (map to_nat) (λ xs ys h k. ends_in_lem xs ys k) os es vs l (sequences-told os es v)

  -- each with the single fill
  module _ (fill : Option ℤ) where
    pub many-valid : All (λ (c : Column). Valid c.runs) (many fill (columns (flat os es vs)))
    many-valid = go (columns (flat os es vs)) (columns-valid os es vs (sequences-told os es v))
      where
        go : (cs : List Runs) → All Valid cs → All (λ (c : Column). Valid c.runs) (many fill cs)
        go [] a = tt
        go (c ∷ cs) a = (a.0, go cs a.1)
