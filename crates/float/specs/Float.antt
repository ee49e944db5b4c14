-- The conversion of document 01, and how large a float is.
use Rattle.std.specs.Prelude.{ℕ, ◌*◌, ◌^◌, ◌≤◌, ℤ, Float}
use Rattle.std.specs.Float.{nan, inf, fin, binary64}
use Rattle.std.specs.Float.Ieee.{up, down, of_int}

-- "i64 becomes f64 to nearest, ties to even"
unfoldable pub converted : ℤ → Float
converted z = of_int binary64 z

-- finite, and at most 2 ^ j in size
abbrev pub Within : ℕ → Float → Type 0
Within j nan = ⊥
Within j (inf s) = ⊥
Within j (fin s m e) = m * up e ≤ 2 ^ j * down e
