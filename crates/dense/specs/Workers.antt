-- What the workers leave and require.
use Rattle.std.specs.Prelude.{ℕ, ◌-◌, ◌≤◌, List, ◌++◌, ◌≡◌, ℤ, pos, length, take, get_or, replicate}
use Rattle.column.specs.Runs.{ends_of, values_of, encode, over}
use Rattle.column.specs.declared.inner.Writer.{Writer}

-- from i up to j all of xs are x
abbrev pub Constant : List ℤ → ℕ → ℕ → ℤ → Type 0
Constant xs i j x = take j xs ≡ take i xs ++ replicate (j - i) x

-- the merged runs of the first i of xs written into the front of two buffers, each before and after, and the writer after them
pub record Encoded (xs e e' v v' : List ℤ) (w : Writer) (i : ℕ) : Type 0 where
  pub ends : e' ≡ over (ends_of (encode (take i xs))) e
  pub values : v' ≡ over (values_of (encode (take i xs))) v
  pub at_last : w.at ≡ length (encode (take i xs)) - 1
  pub last_value : w.last ≡ get_or xs (i - 1) (pos 0)

-- the first i of xs are written, and there is room to go on up to j
pub record Encodable (xs e v : List ℤ) (w : Writer) (i j : ℕ) : Type 0 where
  pub ordered : i ≤ j
  pub within : j ≤ length xs
  pub room_ends : length xs ≤ length e
  pub room_values : length xs ≤ length v
  pub written : Encoded xs e e v v w i
