-- What a step of a mean or of a variance adds, and how large a sum can become: the terms of a mean are below 2^126, its sums below 2^180,
-- however many they are;
-- those of a variance below 2^423 and 2^480.
-- Assumes nothing.
use Prim.Native.Nat.{ℕ}
use mathlib.Core.Path.{◌≡◌}
use lib.Dec.{lit≤, lit<}
use lib.IntN.{ℤ, pos}
use lib.Ieee.{Float, binary64, add, sub, mul}
use mir.Syntax.{w64}
use mir.Val.{SFits}
use Rattle.float.specs.Float.{converted, Within}
use Rattle.float.proofs.Converted.{converted-within}
use Rattle.float.proofs.Operations.{add-within, sub_within, mul-within}
use Rattle.reduce.specs.Calls.{add_product, add_square}

module _ (total : Float) (run : ℕ) (v : ℤ) where
  pub product_is : {x y : Float} → x ≡ converted (pos run) → y ≡ converted v → add binary64 total (mul binary64 x y) ≡ add_product total run v
  unfolding add_product
  product_is ex ey = rw (ex, ey)

  pub product-kept : Within 180 total → SFits w64 (pos run) → SFits w64 v → Within 180 (add_product total run v)
  unfolding add_product
  product-kept k f g =
      add-within binary64 126 180 total _ (lit< tt) (lit≤ tt) k
      (mul-within binary64 63 63 (converted (pos run)) (converted v) (lit≤ tt) (converted-within f) (converted-within g))

  module _ (mean : Float) where
    pub square_is : {x y : Float} → x ≡ converted v → y ≡ converted (pos run)
        → add binary64 total (mul binary64 (mul binary64 (sub binary64 x mean) (sub binary64 x mean)) y) ≡ add_square mean total run v
    unfolding add_square
    square_is ex ey = rw (ex, ey)

    pub square_kept : Within 180 mean → Within 480 total → SFits w64 (pos run) → SFits w64 v → Within 480 (add_square mean total run v)
    unfolding add_square
    square_kept m k f g =
        let d = sub binary64 (converted v) mean in
        let w : Within 180 d = sub_within binary64 63 180 (converted v) mean (lit< tt) (lit≤ tt) (converted-within g) m in
        add-within binary64 423 480 total _ (lit< tt) (lit≤ tt) k
        (mul-within binary64 360 63 (mul binary64 d d) (converted (pos run)) (lit≤ tt) (mul-within binary64 180 180 d d (lit≤ tt) w w) (converted-within f))
