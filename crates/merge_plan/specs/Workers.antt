-- What the workers leave and require.
use Rattle.std.specs.Prelude.{ℕ, ◌+◌, ◌-◌, ◌≤◌, ◌<◌, List, ◌++◌, ◌≡◌, ℤ, length, set, take, drop, replicate}
use Rattle.column.specs.Runs.{over}
use Rattle.merge_mask.specs.Calls.{Group}
use Rattle.merge_plan.specs.Calls.{group_ends, group_offsets}

-- a group was written: its end, and one past its last run after the offsets of the groups before it
pub record Stored (e e' : List ℤ) (x x' : List ℕ) (group : ℕ) (end : ℤ) (past : ℕ) : Type 0 where
  pub ends : e' ≡ set e group end
  pub offsets : x' ≡ set x (group + 1) past

-- two buffers, before and after, into whose front the groups were written, and how many they are
pub record Planned (gs : List (Group ℤ)) (e e' : List ℤ) (x x' : List ℕ) (n : ℕ) : Type 0 where
  pub count : n ≡ length gs
  pub ends : e' ≡ over (group_ends gs) e
  pub offsets : x' ≡ over (group_offsets gs) x

-- the id at the entries from `at` up to r, and no further than the limit
pub record PutIds (b b' : List ℕ) (at limit id r : ℕ) : Type 0 where
  pub some : at < r
  pub within : r ≤ limit
  pub entries : b' ≡ take at b ++ replicate (r - at) id ++ drop r b

-- the id at the entries from `from` up to `to`; anything after them up to the limit, and what was there past it
pub record FilledIds (b b' : List ℕ) (from to limit id : ℕ) : Type 0 where
  pub ids : take to b' ≡ take from b ++ replicate (to - from) id
  pub rest : drop limit b' ≡ drop limit b
