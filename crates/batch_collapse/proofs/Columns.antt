-- The columns of a valid batch with a new key for each, by what the code reads.
-- Assumes nothing.
use Prim.Native.Nat.{ℕ}
use mathlib.Core.Bool.{Bool}
use mathlib.Core.List.{List, [], map}
use mathlib.Core.Path.{◌≡◌, ap, sym, ◌∙◌}
use lib.IntN.{ℤ, pos}
use lib.ListN.{length, get_or}
use Rattle.column.specs.Flat.{flat, columns}
use Rattle.column.specs.Lists.{total, parts}
use Rattle.column.specs.Runs.{length_of, length_of_ends}
use Rattle.column.proofs.All.{All}
use Rattle.column.proofs.Rising.{Valid}
use Rattle.batch.specs.Batch.{batch}
use Rattle.batch.proofs.Entries.{columns-many, columns_are, columns-total, column-count, column-length}
use Rattle.batch_collapse.specs.Workers.{Grouped}

module _ (ks os : List ℕ) (es vs : List ℤ) (new_keys : List ℕ) {together : Bool} (g : Grouped (batch ks os es vs) new_keys together) where
  pub new_many : length new_keys ≡ length (columns (flat os es vs))
  new_many = g.renamed ∙ sym (columns-many ks os es vs g.valid)

  pub all_valid : All Valid (columns (flat os es vs))
  all_valid = columns_are ks os es vs g.valid

  pub all_runs : total (map length (columns (flat os es vs))) ≡ length es
  all_runs = columns-total ks os es vs g.valid

  module _ (k : ℕ) where
    module _ {p : List ℤ} (e : p ≡ get_or (parts os es) k []) where
      pub part-runs : length p ≡ length (get_or (columns (flat os es vs)) k [])
      part-runs = ap length e ∙ sym (column-count ks os es vs g.valid k)

      pub part-long : {x : ℤ} → x ≡ length_of_ends p → x ≡ pos (length_of (get_or (columns (flat os es vs)) k []))
      part-long ex = ex ∙ ap length_of_ends e ∙ column-length ks os es vs g.valid k
