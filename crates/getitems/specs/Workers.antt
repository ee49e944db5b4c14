-- What the workers leave and require.
use Rattle.std.specs.Prelude.{ℕ, ◌+◌, ◌≤◌, ◌-◌, ◌<◌, ◌^◌, min, List, [], ◌∷◌, map, ◌≡◌, ℤ, pos, length, get_or, None}
use Rattle.column.specs.Lists.{total}
use Rattle.column.specs.Questions.{ends_valid}
use Rattle.column.specs.Runs.{Sequence, runs, runs_of, to_nat, length_of_ends}
use Rattle.column.specs.Workers.{KeptBlock}
use Rattle.slice.specs.Calls.{first_end_above, slice_runs}
use Rattle.slice.specs.Workers.{touched_by, Halving}
use Rattle.getitems.specs.Calls.{interval_runs}

-- ---- searches beside each other

-- how many: the constant BLOCK
abbrev pub block_size : ℕ
block_size = 16

-- a position as clamped to the sequence, or so many before it
unfoldable pub sought : List ℤ → ℕ → ℤ → ℕ
sought es back p = min (to_nat p) (to_nat (length_of_ends es)) - back

-- the first end above it
abbrev pub found : List ℤ → ℕ → ℤ → ℕ
found es back p = first_end_above (pos (sought es back p)) es

-- a block of searches, of which so many ends are left
pub record Halvings (es : List ℤ) (qs ls : List ℕ) (size : ℕ) : Type 0 where
  pub places_many : length qs ≡ block_size
  pub lows_many : length ls ≡ block_size
  pub small : (d : ℕ) → d < block_size → get_or qs d 0 < 2 ^ 63
  pub halves : (d : ℕ) → d < block_size → Halving (get_or qs d 0) es (get_or ls d 0) size

-- those of the block at `from` begin
pub record Begun (es ps : List ℤ) (from back : ℕ) (qs ls : List ℕ) : Type 0 where
  pub halvings : Halvings es qs ls (length es)
  pub places : (d : ℕ) → d < block_size → get_or qs d 0 ≡ sought es back (get_or ps (from + d) (pos 0))

-- they have ended
pub record Searched (es ps : List ℤ) (back from : ℕ) (bs : List ℕ) : Type 0 where
  pub within : (d : ℕ) → d < block_size → get_or bs d 0 ≤ length es
  pub found_all : ends_valid es ≡ None → (d : ℕ) → d < block_size → get_or bs d 0 ≡ found es back (get_or ps (from + d) (pos 0))

-- before the position at i is looked for
abbrev pub Kept : List ℤ → List ℤ → ℕ → List ℕ → ℕ → Type 0
Kept es ps back = KeptBlock block_size (Searched es ps back)

-- ---- the calls

-- how many runs the slice of each interval has, by the ends alone
unfoldable pub interval_counts : List ℤ → List ℤ → List ℤ → List ℕ
interval_counts [] stops es = []
interval_counts (s ∷ ss) [] es = []
interval_counts (s ∷ ss) (e ∷ stops) es = (touched_by s e es).count ∷ interval_counts ss stops es

-- what is known once getitems is not refused
pub record Gettable (s : Sequence) (starts stops : List ℤ) (x : List ℕ) (e v : List ℤ) : Type 0 where
  pub valid : ends_valid s.ends ≡ None
  pub paired : length s.ends ≡ length s.values
  pub intervals : length starts ≡ length stops
  pub room_offsets : length starts + 1 ≤ length x
  pub room_ends : total (map length (interval_runs starts stops (runs s))) ≤ length e
  pub room_values : total (map length (interval_runs starts stops (runs s))) ≤ length v

-- the slice of a sequence, whose first run is found, and the room for it
pub record SliceAt (es vs : List ℤ) (first : ℕ) (start stop : ℤ) (e v : List ℤ) : Type 0 where
  pub valid : ends_valid es ≡ None
  pub paired : length es ≡ length vs
  pub first_found : first ≡ found es 0 start
  pub room_ends : length (slice_runs start stop (runs_of es vs)) ≤ length e
  pub room_values : length (slice_runs start stop (runs_of es vs)) ≤ length v

-- what is known once slice_reduce is not refused
pub record Reducible (s : Sequence) (starts stops : List ℤ) (k b : List ℕ) : Type 0 where
  pub valid : ends_valid s.ends ≡ None
  pub paired : length s.ends ≡ length s.values
  pub intervals : length starts ≡ length stops
  pub room_kinds : length starts ≤ length k
  pub room_bits : length starts ≤ length b
