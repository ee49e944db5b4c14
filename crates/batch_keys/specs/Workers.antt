-- What the searches leave and require.
use Rattle.std.specs.Prelude.{ℕ, ◌+◌, ◌≤◌, ◌<◌, ◌^◌, Bool, true, ◌&&◌, List, [], ◌∷◌, ◌≡◌, ltb, length, get_or, None}
use Rattle.column.specs.Questions.{distinct_keys}
use Rattle.column.specs.Workers.{KeptBlock}
use Rattle.batch_index.specs.Calls.{lowest}
use Rattle.batch_keys.specs.declared.Order.{Order}
use Rattle.batch_keys.specs.declared.Order.TheVariants.{Ascending, Distinct, Unknown}

-- is each key above the one before it, the first above k
abbrev pub ascends_from : ℕ → List ℕ → Bool
ascends_from k [] = true
ascends_from k (l ∷ ks) = ltb k l && ascends_from l ks

abbrev pub ascends : List ℕ → Bool
ascends [] = true
ascends (k ∷ ks) = ascends_from k ks

-- what is known of keys
abbrev pub Known : Order → List ℕ → Type 0
Known Ascending ks = ascends ks ≡ true
Known Distinct ks = distinct_keys ks ≡ None
Known Unknown ks = Unit {0}

-- ---- wanted keys in blocks, each found at once

-- how many wanted keys a block has
abbrev pub block_size : ℕ
block_size = 4096

-- the block at i of so many wanted keys ends at r
pub record BlockEnd (i wanted r : ℕ) : Type 0 where
  pub after : i < r
  pub within : r ≤ wanted
  pub short : r ≤ i + block_size
  pub whole : (r ≡ wanted → ⊥) → r ≡ i + block_size

-- those of the block at i are found
abbrev pub FoundFrom : List ℕ → List ℕ → ℕ → List ℕ → Type 0
FoundFrom ks ws i bs = (d : ℕ) → d < block_size → i + d < length ws → get_or bs d 0 ≡ lowest (get_or ws (i + d) 0) ks

-- and the first of them at r
pub record BlockFound (ks ws : List ℕ) (i : ℕ) (bs : List ℕ) (r : ℕ) : Type 0 where
  pub first : r ≡ lowest (get_or ws i 0) ks
  pub found : FoundFrom ks ws i bs

-- before the wanted key at i is looked for by an index
pub record Kept (ks ws : List ℕ) (indexed : Bool) (bs : List ℕ) (i : ℕ) : Type 0 where
  pub few : indexed ≡ true → length ks < 2 ^ 32
  pub block : indexed ≡ true → KeptBlock block_size (FoundFrom ks ws) bs i

-- what an index asks: few enough keys, and room for the positions of a block
pub record Blocks (ks bs : List ℕ) : Type 0 where
  pub few : length ks < 2 ^ 32
  pub room : length bs ≡ block_size
