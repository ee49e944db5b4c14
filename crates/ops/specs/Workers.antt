-- What the workers require.
use Rattle.std.specs.Prelude.{◌+◌, ◌≤◌, List, ◌≡◌, ℤ, length, None}
use Rattle.column.specs.Questions.{ends_valid}
use Rattle.column.specs.Runs.{Sequence}

-- two columns, and two buffers with room for a run of each of their segments
pub record Zippable (a b : Sequence) (e v : List ℤ) : Type 0 where
  pub valid_a : ends_valid a.ends ≡ None
  pub valid_b : ends_valid b.ends ≡ None
  pub paired_a : length a.ends ≡ length a.values
  pub paired_b : length b.ends ≡ length b.values
  pub room_ends : length a.ends + length b.ends ≤ length e
  pub room_values : length a.ends + length b.ends ≤ length v
