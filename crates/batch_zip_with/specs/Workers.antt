-- What the workers leave and require.
use Rattle.std.specs.Prelude.{ℕ, ◌+◌, ◌-◌, ◌≤◌, Bool, cond, not, ◌||◌, List, map, ◌≡◌, ℤ, length, get_or, ltb, Option}
use Rattle.num.specs.Numbers.{saturated}
use Rattle.column.specs.Asking.{shown_asked}
use Rattle.column.specs.Lists.{total}
use Rattle.batch_index.specs.Calls.{lowest}
use Rattle.batch.specs.declared.two.Joined.{Joined}
use Rattle.batch.specs.Batch.{Batch}
use Rattle.batch.specs.Workers.{ValidBatch}
use Rattle.batch_zip_with.specs.declared.inner.PairsAsked.{PairsAsked}
use Rattle.batch_zip_with.specs.Calls.{keeps_left, keeps_right, Pair, pair_runs, filled_pairs}

-- the keys of both batches stand one after the other, the right's only where its own are kept: how many places there are
abbrev pub places_of : ℕ → ℕ → ℕ → ℕ
places_of how a b = a + cond (keeps_right how) b 0

-- what is at place n, the key, and where it stands in each batch (past the last where it does not)
abbrev pub pair_at : List ℕ → List ℕ → ℕ → Joined
pair_at ka kb n =
    let left = get_or ka n 0 in
    let right = get_or kb (n - length ka) 0 in
    cond (ltb n (length ka)) (record { at = n; key = left; a = n; b = lowest left kb })
    (record { at = n; key = right; a = lowest right ka; b = n - length ka })

-- is the key at place n one of the result
abbrev pub pair_kept : ℕ → List ℕ → List ℕ → ℕ → Bool
pair_kept how ka kb n =
    cond (ltb n (length ka)) (keeps_left how || ltb (lowest (get_or ka n 0) kb) (length kb))
    (not (ltb (lowest (get_or kb (n - length ka) 0) ka) (length ka)))

-- 10 of all pairs, and how many runs they have, saturating at 2^64 − 1
pub record AsksPairs (fa fb : Option ℤ) (ps : List Pair) (r : PairsAsked) : Type 0 where
  pub filled : shown_asked r.asked ≡ filled_pairs fa fb ps
  pub runs : r.runs ≡ saturated (total (map pair_runs ps))

-- two valid batches, and room for the pairs
pub record ZipRoom (a b : Batch) (ps : List Pair) (k x : List ℕ) (e v : List ℤ) : Type 0 where
  pub first : ValidBatch a
  pub second : ValidBatch b
  pub room_keys : length a.keys + length b.keys ≤ length k
  pub room_offsets : length a.keys + length b.keys + 1 ≤ length x
  pub room_ends : total (map pair_runs ps) ≤ length e
  pub room_values : total (map pair_runs ps) ≤ length v
