-- What the workers require and leave: shift, by less than the length.
use Rattle.std.specs.Prelude.{ℕ, ◌+◌, ◌-◌, ◌≤◌, ◌<◌, ◌^◌, List, ◌++◌, ◌≡◌, ℤ, length, take, drop, replicate, None}
use Rattle.column.specs.Questions.{ends_valid}
use Rattle.column.specs.Runs.{runs_of, length_of}

abbrev pub shifted_up : ℕ → ℤ → List ℤ → List ℤ
shifted_up by fill xs = replicate by fill ++ take (length xs - by) xs

abbrev pub shifted_down : ℕ → ℤ → List ℤ → List ℤ
shifted_down by fill xs = drop by xs ++ replicate by fill

-- a sequence of that length, and room for one run more
pub record Shiftable (es vs : List ℤ) (by n : ℕ) (e v : List ℤ) : Type 0 where
  pub valid : ends_valid es ≡ None
  pub paired : length es ≡ length vs
  pub whole : n ≡ length_of (runs_of es vs)
  pub short : by < n
  pub fitting : n < 2 ^ 63
  pub room_ends : length es + 1 ≤ length e
  pub room_values : length es + 1 ≤ length v
