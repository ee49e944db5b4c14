use mathlib.Core.Path.{ap, ◌∙◌}
use lib.Ieee.{binary64, div}
use mir.Facts.{to_z-of_z}
use Rattle.float.specs.Float.{converted}
use Rattle.reduce.proofs.Reducing.{variance_some}
use Rattle.reduce.proofs.inner.variance.Goals as goal

pub returns : goal.returns
returns c =
    variance_some _ _ _ _ _ c.requires.1 (rw (to_z-of_z c.ranges.divisor) at c.if-divisor-le0.false) c.ranges.divisor c.square_window-squares.ensures c.requires.0.bounded
    (ap (div binary64 c.square_window-squares.result) (c.to_f64.ensures ∙ ap converted (to_z-of_z c.ranges.divisor)))
