-- Natural numbers held in signed locals, and their difference.
-- Assumes nothing.
use Rattle.std.proofs.Common.{◌≡◌, ℕ, zero, suc, ◌-◌, ◌^◌, ◌<◌, ◌≤◌, ℤ, pos, ◌-ℤ◌, ap, ◌∙◌, ap₂, arith, w64, SFits, to_z, of_z, le-ltb}
use lib.Signed.{mag}
use Rattle.num.proofs.Bits.{back}

module _ {z : ℤ} {n : ℕ} (e : z ≡ pos n) where
  pub natural-below : mag z < 2 ^ 63 → n < 2 ^ 63
  natural-below h = rw e at h

  pub natural-back : n < 2 ^ 63 → to_z w64 (of_z w64 z) ≡ pos n
  natural-back h = back z (rw e h) ∙ e

pub difference : (a b : ℕ) → b ≤ a → pos a -ℤ pos b ≡ pos (a - b)
difference a zero h = ap pos (omega arith)
difference a (suc b) h = rw (le-ltb a (suc b) h)

module _ {x y : ℤ} {a b : ℕ} (ex : x ≡ pos a) (ey : y ≡ pos b) (h : b ≤ a) where
  pub difference_of : x -ℤ y ≡ pos (a - b)
  difference_of = ap₂ ◌-ℤ◌ ex ey ∙ difference a b h

  pub difference-fits : a < 2 ^ 63 → SFits w64 (x -ℤ y)
  difference-fits k = rw difference_of (record { sfits = omega arith })
