-- What the workers leave and require.
use Rattle.std.specs.Prelude.{ℕ, ◌+◌, ◌≤◌, Bool, List, ◌++◌, ◌≡◌, ℤ, length, get_or, eqb, None}
use Rattle.batch_index.specs.Calls.{lowest}
use Rattle.batch_keys.specs.Calls.{once}
use Rattle.batch.specs.declared.two.Joined.{Joined}
use Rattle.batch.specs.Batch.{Batch, entries}
use Rattle.batch.specs.Workers.{ValidBatch}
use Rattle.batch_concat.specs.Calls.{fit_keys}

-- the keys of both batches stand one after the other: what is at place n, the key, and where it stands in each batch (past the last where it does
-- not)
abbrev pub key_at : List ℕ → List ℕ → ℕ → Joined
key_at ka kb n =
    let key = get_or (ka ++ kb) n 0 in
    record { at = n; key = key; a = lowest key ka; b = lowest key kb }

-- does the key at place n not stand before
abbrev pub key_kept : List ℕ → List ℕ → ℕ → Bool
key_kept ka kb n = eqb (lowest (get_or (ka ++ kb) n 0) (ka ++ kb)) n

-- two valid batches whose joined lengths fit, and room for them
pub record ConcatRoom (a b : Batch) (k x : List ℕ) (e v : List ℤ) : Type 0 where
  pub first : ValidBatch a
  pub second : ValidBatch b
  pub fitting : fit_keys (entries a) (entries b) (once (a.keys ++ b.keys)) ≡ None
  pub room_keys : length a.keys + length b.keys ≤ length k
  pub room_offsets : length a.keys + length b.keys + 1 ≤ length x
  pub room_ends : length a.flat.ends + length b.flat.ends ≤ length e
  pub room_values : length a.flat.ends + length b.flat.ends ≤ length v
