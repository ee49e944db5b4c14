-- What a call's questions tell where all are answered "yes": what its worker requires.
-- Assumes nothing.
use Prim.Native.Nat.{ℕ, ◌+◌}
use Rattle.std.specs.Prelude.{None}
use mathlib.Core.List.{List, [], ◌∷◌}
use mathlib.Core.Path.{◌≡◌}
use native.Mathlib.Omega.{arith}
use lib.IntN.{ℤ, pos}
use lib.ListN.{length, take}
use Rattle.column.specs.Questions.{used_within, ends_valid, not_negative, fits, long_enough}
use Rattle.column.specs.Runs.{sequence, to_nat}
use Rattle.column.proofs.FirstNo.{all_yes}
use Rattle.column.proofs.Told.{both_told}
use Rattle.rle.specs.Calls.{push_run_asked, extend_to_asked, present_length, room_for_one}
use Rattle.rle.specs.Workers.{Pushable, Extendable}

module _ (e v : List ℤ) where
  pub push_run-yes : (n : ℕ) (run : ℤ) → push_run_asked (sequence e v) n run ≡ None → Pushable e v n run
  unfolding push_run_asked
  push_run-yes n run h =
      let y = all_yes
      (used_within n (length e) (length v)
      ∷ ends_valid (take n e)
      ∷ not_negative n run
      ∷ fits (present_length n (sequence e v) + to_nat run)
      ∷ room_for_one n (sequence e v)
      ∷ []) h in
      let r = both_told (n + 1) (length e) (length v) y.1.1.1.1.0 in
      record { valid = y.1.0; room_ends = omega arith; room_values = omega arith; natural = y.1.1.0; fitting = y.1.1.1.0 }

  pub extend_to-yes : (n : ℕ) (requested : ℤ) → extend_to_asked (sequence e v) n requested ≡ None → Extendable e v n requested
  unfolding extend_to_asked
  extend_to-yes n requested h =
      let y = all_yes
      (used_within n (length e) (length v)
      ∷ ends_valid (take n e)
      ∷ long_enough requested (pos (present_length n (sequence e v)))
      ∷ room_for_one n (sequence e v)
      ∷ []) h in
      let r = both_told (n + 1) (length e) (length v) y.1.1.1.0 in
      record { valid = y.1.0; room_ends = omega arith; room_values = omega arith; long = y.1.1.0 }
