-- How many runs the members of a group have together once they are combined, and how long that is.
-- Assumes nothing.
use Rattle.std.specs.Prelude.{Option}
use Prim.Native.Nat.{◌+◌, ◌≤◌, max}
use mathlib.Core.List.{List, [], ◌∷◌, map}
use mathlib.Core.Path.{◌≡◌, ◌∙◌}
use native.Mathlib.Omega.{arith}
use lib.IntN.{ℤ}
use lib.ListN.{length}
use Rattle.column.specs.Combine.{two, greatest_length, row_at, table, combined}
use Rattle.column.specs.Lists.{total}
use Rattle.column.specs.Runs.{Runs, length_of, dense, encode}
use Rattle.column.proofs.All.{All}
use Rattle.column.proofs.Appending.{push_few}
use Rattle.column.proofs.Dense.{length-dense, length-encode}
use Rattle.column.proofs.Encode.{push_all_lem}
use Rattle.column.proofs.Encoded.{valid-encode}
use Rattle.column.proofs.Positions.{each_position-length}
use Rattle.column.proofs.Rising.{Valid}
use Rattle.plan.proofs.Columns.{two-few}
use Rattle.batch_collapse.specs.Calls.{collapse_from, collapse_runs}

-- ---- merged, and combined

pub merged-few : (rs : Runs) → Valid rs → length (encode (dense rs)) ≤ length rs
merged-few rs v = rw (← push_all_lem rs v) (omega (arith, push_few [] rs))

pub merged-long : (rs : Runs) → Valid rs → length_of (encode (dense rs)) ≡ length_of rs
merged-long rs v = length-encode (dense rs) ∙ length-dense rs v

module _ (op : ℤ → ℤ → ℤ) (fa fb : Option ℤ) (a b : Runs) where
  pub combined-valid : Valid (combined op (two fa fb a b))
  unfolding combined
  combined-valid = valid-encode (table op (two fa fb a b))

  pub combined-long : length_of (combined op (two fa fb a b)) ≡ max (length_of a) (max (length_of b) 0)
  unfolding combined table greatest_length
  combined-long = length-encode (table op (two fa fb a b)) ∙ each_position-length (row_at op (two fa fb a b)) 0 (greatest_length (two fa fb a b))

-- ---- a group

from-few : (op : ℤ → ℤ → ℤ) (fill : Option ℤ) (sofar : Runs) (ms : List Runs) → Valid sofar → All Valid ms
    → length (collapse_from op fill sofar ms) ≤ length sofar + total (map length ms)
unfolding collapse_from
from-few op fill sofar [] v a = omega arith
from-few op fill sofar (m ∷ ms) v a =
    omega (
      arith,
      from-few op fill (combined op (two fill fill sofar m)) ms (combined-valid op fill fill sofar m) a.1,
      two-few op fill fill sofar m v a.0,
    )

pub collapse-few : (op : ℤ → ℤ → ℤ) (fill : Option ℤ) (ms : List Runs) → All Valid ms → length (collapse_runs op fill ms) ≤ total (map length ms)
unfolding collapse_runs
collapse-few op fill [] a = omega arith
collapse-few op fill (m ∷ ms) a = omega (arith, from-few op fill (encode (dense m)) ms (valid-encode (dense m)) a.1, merged-few m a.0)
