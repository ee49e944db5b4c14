use mathlib.Core.Path.{ap}
use mir.Facts.{to_z-of_z}
use Rattle.float.specs.Float.{converted}
use Rattle.float.proofs.inner.exact.Goals as goal

pub returns : goal.returns
unfolding converted
returns c = ap converted (to_z-of_z c.ranges.x)
