-- What the worker requires.
use Rattle.std.specs.Prelude.{◌≡◌, length, None}
use Rattle.column.specs.Questions.{ends_valid}
use Rattle.column.specs.Runs.{Sequence}

-- two sequences, each valid
pub record Comparable (a b : Sequence) : Type 0 where
  pub valid_a : ends_valid a.ends ≡ None
  pub valid_b : ends_valid b.ends ≡ None
  pub paired_a : length a.ends ≡ length a.values
  pub paired_b : length b.ends ≡ length b.values
