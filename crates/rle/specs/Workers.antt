-- What the workers require.
use Rattle.std.specs.Prelude.{ℕ, ◌+◌, ◌<◌, List, ◌≡◌, ℤ, pos, length, take, None}
use Rattle.column.specs.Questions.{ends_valid, not_negative, fits, long_enough}
use Rattle.column.specs.Runs.{sequence, to_nat}
use Rattle.rle.specs.Calls.{present_length}

-- every question of push_run and of extend_to answered "yes"
pub record Pushable (ends values : List ℤ) (n : ℕ) (run : ℤ) : Type 0 where
  pub valid : ends_valid (take n ends) ≡ None
  pub room_ends : n < length ends
  pub room_values : n < length values
  pub natural : not_negative n run ≡ None
  pub fitting : fits (present_length n (sequence ends values) + to_nat run) ≡ None

pub record Extendable (ends values : List ℤ) (n : ℕ) (requested : ℤ) : Type 0 where
  pub valid : ends_valid (take n ends) ≡ None
  pub room_ends : n < length ends
  pub room_values : n < length values
  pub long : long_enough requested (pos (present_length n (sequence ends values))) ≡ None
