-- The used entries as the code reads them, after a "yes" to their number and to their ends.
-- Assumes nothing.
use Prim.Native.Nat.{ℕ, ◌-◌, ◌≤◌, ◌<◌, ◌^◌}
use Rattle.std.specs.Prelude.{None}
use mathlib.Core.List.{List}
use mathlib.Core.Path.{◌≡◌, ap, sym, ◌∙◌}
use native.Mathlib.Omega.{arith}
use lib.IntN.{ℤ, pos}
use lib.ListN.{length, take}
use Rattle.column.specs.Asking.{Question}
use Rattle.column.specs.Lists.{part}
use Rattle.column.specs.Questions.{used_within, ends_valid}
use Rattle.column.specs.Runs.{sequence, length_of_ends}
use Rattle.column.proofs.Ends.{length_of-ends}
use Rattle.column.proofs.Told.{used-told}
use Rattle.column.proofs.Used.{used-paired}
use Rattle.rle.specs.Calls.{present_length, room_for_one}
use Rattle.rle.proofs.After.{first_part}

module _ (e v : List ℤ) (n : ℕ) (within : None ≡ used_within n (length e) (length v)) where
  inside : (n ≤ length e) × (n ≤ length v)
  inside = let u = used-told n (length e) (length v) (sym within) in (omega arith, omega arith)

  pub used-length : {es : List ℤ} {x : ℤ} → es ≡ part 0 n e → None ≡ ends_valid es → x ≡ length_of_ends es
      → x ≡ pos (present_length n (sequence e v))
  used-length ep valid ex =
      let taken = ep ∙ first_part n e in
      ex ∙ ap length_of_ends taken
      ∙ length_of-ends (take n e) (take n v) (sym (valid ∙ ap ends_valid taken)) (used-paired n e v inside.0 inside.1)

  -- one more is a number of 64 bits
  pub used-room : {q : Question} → length e < 2 ^ 63 → (n < 2 ^ 64 - 1 → q ≡ room_for_one n (sequence e v)) → q ≡ room_for_one n (sequence e v)
  used-room few f = f (let i = inside in omega arith)
