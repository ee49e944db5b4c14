-- What lending the front of an array asks, from a bound alone.
-- Assumes nothing.
use Rattle.std.proofs.Common.{ℕ, ◌≤◌, List, length, sym, length-take-le}
use Rattle.text.specs.Counts.{Counts}

pub counts : {A : Type 0} {n : ℕ} (xs : List A) → n ≤ length xs → Counts n xs
counts xs h = (h, sym (length-take-le _ xs h))
