-- What the workers leave and require.
use Rattle.std.specs.Prelude.{ℕ, ◌+◌, ◌*◌, ◌-◌, ◌≤◌, ◌<◌, Bool, true, false, List, map, ◌≡◌, ℤ, length, get_or, take, drop, eqb}
use Rattle.column.specs.declared.answer.RleBatch.{RleBatch}
use Rattle.column.specs.Lists.{total}
use Rattle.column.specs.Runs.{Sequence, sequence, Runs, ends_of, values_of, Filled}
use Rattle.batch_index.specs.Workers.{doubled, Chains, Listed, Linked}
use Rattle.batch.specs.Batch.{Batch, Entry}
use Rattle.batch.specs.Workers.{ValidBatch, FilledCounts}
use Rattle.ops.specs.Workers.{Zippable}
use Rattle.batch_collapse.specs.declared.inner.Group.{Group}
use Rattle.batch_collapse.specs.Calls.{members, renamed}

-- ---- groups of equal keys

-- equal keys stand together: a key stands before exactly if it is the one before
abbrev pub Together : List ℕ → Type 0
Together ks = (i : ℕ) → 0 < i → i < length ks → doubled ks i ≡ eqb (get_or ks i 0) (get_or ks (i - 1) 0)

-- r is the lowest position from n on of a key that does not stand before, or the number of keys
pub record NextGroup (ks : List ℕ) (n r : ℕ) : Type 0 where
  pub after : n ≤ r
  pub within : r ≤ length ks
  pub before : (i : ℕ) → n ≤ i → i < r → doubled ks i ≡ true
  pub here : r < length ks → doubled ks r ≡ false

-- the members of a group can be found
pub record Chained (ks ns ps : List ℕ) (g : Group) : Type 0 where
  pub chains : Chains ks ns ps g.links
  pub listed : Listed ks ps g.links g.first

-- and the groups after it
pub record AtGroup (ks fs ns ps : List ℕ) (g : Group) : Type 0 where
  pub linked : Linked ks fs ns ps g.links
  pub begun : g.links.from ≤ g.first.at
  pub listed : Listed ks ps g.links g.first

-- a valid batch with a new key for each key, and what is known of the new keys
pub record Grouped (b : Batch) (new_keys : List ℕ) (together : Bool) : Type 0 where
  pub valid : ValidBatch b
  pub renamed : length new_keys ≡ length b.keys
  pub known : together ≡ true → Together new_keys

-- how many runs the members of a new key have
abbrev pub member_runs : List Entry → ℕ → ℕ
member_runs es k = total (map length (members es k))

-- ---- one more member

-- the runs at the front of the scratch buffers and a member, with room for a run of each of their segments
pub record Foldable (member : Sequence) (count : ℕ) (e v s t : List ℤ) : Type 0 where
  pub zippable : Zippable (sequence (take count s) (take count t)) member e v
  pub scratch_ends : count + length member.ends ≤ length s
  pub scratch_values : count + length member.ends ≤ length t

-- the same runs are written into the front of both pairs of buffers
pub record FoldedMember (rs : Runs) (e e' v v' s s' t t' : List ℤ) (r : ℕ) : Type 0 where
  pub through : Filled rs e e' v v' r
  pub filled : Filled rs s s' t t' r

-- ---- a group folded: `first` is the position of its first member

-- a buffer for the group's runs, and a scratch buffer whose first n entries are for them too
pub record FoldRoom (b : Batch) (new_keys : List ℕ) (first : ℕ) (e v s t : List ℤ) : Type 0 where
  pub within : first < length new_keys
  pub alone : doubled new_keys first ≡ false
  pub room_ends : member_runs (renamed b new_keys) (get_or new_keys first 0) ≤ length e
  pub room_values : member_runs (renamed b new_keys) (get_or new_keys first 0) ≤ length v
  pub scratch_ends : 2 * length b.flat.ends ≤ length s
  pub scratch_values : 2 * length b.flat.ends ≤ length t

-- the runs stand at the front of the scratch buffers, whose entries from n on are as before; the other two buffers are as before from m on
pub record Folded (rs : Runs) (n m : ℕ) (e e' v v' s s' t t' : List ℤ) (r : ℕ) : Type 0 where
  pub count : r ≡ length rs
  pub front_ends : take r s' ≡ ends_of rs
  pub front_values : take r t' ≡ values_of rs
  pub back_ends : drop n s' ≡ drop n s
  pub back_values : drop n t' ≡ drop n t
  pub rest_ends : drop m e' ≡ drop m e
  pub rest_values : drop m v' ≡ drop m v
  pub long_ends : length e' ≡ length e
  pub long_values : length v' ≡ length v
  pub long_scratch_ends : length s' ≡ length s
  pub long_scratch_values : length t' ≡ length t

-- a scratch buffer of which the first n entries are free
pub record Free (n : ℕ) (s s' : List ℤ) : Type 0 where
  pub long : length s' ≡ length s
  pub later : drop n s' ≡ drop n s

-- the runs of a group are written
pub record FilledGroup (rs : Runs) (n : ℕ) (e e' v v' s s' t t' : List ℤ) (r : ℕ) : Type 0 where
  pub filled : Filled rs e e' v v' r
  pub scratch_ends : Free n s s'
  pub scratch_values : Free n t t'

-- ---- all groups

pub record CollapseRoom (b : Batch) (k x : List ℕ) (e v s t : List ℤ) : Type 0 where
  pub room_keys : length b.keys ≤ length k
  pub room_offsets : length b.keys + 1 ≤ length x
  pub room_ends : length b.flat.ends ≤ length e
  pub room_values : length b.flat.ends ≤ length v
  pub scratch_ends : 2 * length b.flat.ends ≤ length s
  pub scratch_values : 2 * length b.flat.ends ≤ length t

pub record FilledGroups (es : List Entry) (n : ℕ) (k k' x x' : List ℕ) (e e' v v' s s' t t' : List ℤ) (r : RleBatch) : Type 0 where
  pub filled : FilledCounts es k k' x x' e e' v v' r
  pub scratch_ends : Free n s s'
  pub scratch_values : Free n t t'
