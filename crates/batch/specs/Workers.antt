-- What the workers leave and require.
use Rattle.std.specs.Prelude.{ℕ, ◌+◌, ◌-◌, ◌≤◌, ◌<◌, ◌^◌, Bool, true, false, cond, List, map, ◌≡◌, ℤ, ltb, length, get_or, Option, Some, None, IfSome}
use Rattle.column.specs.declared.answer.RleBatch.{RleBatch}
use Rattle.column.specs.Flat.{offsets_flat, ends_flat, flat_offsets, flat_ends, flat_values}
use Rattle.column.specs.Lists.{total}
use Rattle.column.specs.Runs.{over}
use Rattle.batch_index.specs.Calls.{lowest}
use Rattle.batch_keys.specs.Workers.{Known, block_size, Kept}
use Rattle.batch.specs.Batch.{Batch, Entry, keys_of, columns_of}
use Rattle.batch.specs.declared.inner.lookup.Lookup.{Lookup}
use Rattle.batch.specs.declared.two.Joined.{Joined}
use Rattle.column.specs.Lent.{Lent, given, after}

-- every question of a batch answered "yes"
pub record ValidBatch (b : Batch) : Type 0 where
  pub keyed : length b.flat.offsets ≡ length b.keys + 1
  pub paired : length b.flat.ends ≡ length b.flat.values
  pub offsets : offsets_flat b.flat ≡ None
  pub valid : ends_flat b.flat ≡ None

-- entries laid flat, written into the front of four buffers, each before and after, and how many runs they have
pub record FilledBatch (es : List Entry) (k k' x x' : List ℕ) (e e' v v' : List ℤ) (n : ℕ) : Type 0 where
  pub count : n ≡ total (map length (columns_of es))
  pub keys : k' ≡ over (keys_of es) k
  pub offsets : x' ≡ over (flat_offsets (columns_of es)) x
  pub ends : e' ≡ over (flat_ends (columns_of es)) e
  pub values : v' ≡ over (flat_values (columns_of es)) v

-- of the buffers that a call is lent
abbrev pub FillsBatch : List Entry → Lent ℕ → Lent ℕ → Lent ℤ → Lent ℤ → ℕ → Type 0
FillsBatch es k x e v n = FilledBatch es (given k) (after k) (given x) (after x) (given e) (after e) (given v) (after v) n

-- entries laid flat, written into the front of four buffers, each before and after, and both counts
pub record FilledCounts (es : List Entry) (k k' x x' : List ℕ) (e e' v v' : List ℤ) (r : RleBatch) : Type 0 where
  pub filled : FilledBatch es k k' x x' e e' v v' r.runs
  pub many : r.keys ≡ length es

-- of the buffers that a call is lent
abbrev pub FillsCounts : List Entry → Lent ℕ → Lent ℕ → Lent ℤ → Lent ℤ → RleBatch → Type 0
FillsCounts es k x e v r = FilledCounts es (given k) (after k) (given x) (after x) (given e) (after e) (given v) (after v) r

-- ---- the keys of two batches, one after the other: f tells what is at each place, t whether it is kept

-- the place of what is found, or the number of places
abbrev pub place_of : ℕ → Option Joined → ℕ
place_of places None = places
place_of places (Some j) = j.at

-- r is what is at the lowest place from n on, below the number of places, that is kept; or there is none
pub record NextKept (f : ℕ → Joined) (t : ℕ → Bool) (places n : ℕ) (r : Option Joined) : Type 0 where
  pub after : n ≤ place_of places r
  pub within : place_of places r ≤ places
  pub before : (i : ℕ) → n ≤ i → i < place_of places r → t i ≡ false
  pub here : IfSome r (λ (j : Joined). (j.at < places) × (j ≡ f j.at) × (t j.at ≡ true))

-- ---- each looked up in the other batch

-- what a look-up may go by
pub record KnownKeys (ka kb : List ℕ) (l : Lookup) : Type 0 where
  pub first : Known l.a ka
  pub second : Known l.b kb
  pub few : l.indexed ≡ true → (length ka < 2 ^ 32) × (length kb < 2 ^ 32)

-- the lowest position in the other batch of the key at place n, past the last where it has none
abbrev pub other_entry_at : List ℕ → List ℕ → ℕ → ℕ
other_entry_at ka kb n = cond (ltb n (length ka)) (lowest (get_or ka n 0) kb) (lowest (get_or kb (n - length ka) 0) ka)

-- before the key at place n is looked for: what a block holds of the first batch's keys, or after them of the second's
pub record KeptOther (ka kb : List ℕ) (indexed : Bool) (bs : List ℕ) (n : ℕ) : Type 0 where
  pub room : indexed ≡ true → length bs ≡ block_size
  pub left : n < length ka → Kept kb ka indexed bs n
  pub right : length ka ≤ n → Kept ka kb indexed bs (n - length ka)
