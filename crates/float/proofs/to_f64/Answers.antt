use mathlib.Core.Path.{◌≡◌, ap, ◌∙◌}
use lib.IntN.{ℤ}
use lib.Ieee.{binary64, to_bits}
use mir.Facts.{to_z-of_z}
use Rattle.float.specs.Float.{converted}
use Rattle.float.proofs.Patterns.{bits_back, bits_no_nan}
use Rattle.float.proofs.to_f64.Goals as goal

told : (c : goal.After-nearest_bits) → c.nearest_bits.result ≡ to_bits binary64 (converted c.args.x)
told c = c.nearest_bits.ensures ∙ ap (λ (z : ℤ). to_bits binary64 (converted z)) (to_z-of_z c.ranges.x)

pub float_from_bits-result : goal.float_from_bits-result
float_from_bits-result c = bits_no_nan c.args.x (told c)

pub returns-else-is_exact : goal.returns-else-is_exact
returns-else-is_exact c = bits_back c.args.x (told c)
