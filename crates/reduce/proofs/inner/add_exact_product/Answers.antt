use mathlib.Core.Path.{ap, ◌∙◌}
use mir.Facts.{to_z-of_z}
use Rattle.float.specs.Float.{converted}
use Rattle.reduce.proofs.Terms.{product_is}
use Rattle.reduce.proofs.inner.add_exact_product.Goals as goal

pub returns : goal.returns
returns c =
    let run = c.exact.ensures ∙ ap converted (to_z-of_z c.ranges.run ∙ c.requires.0) in
    let value = c.exact-2.ensures ∙ ap converted (to_z-of_z c.ranges.value) in
    product_is c.args.total _ c.args.value run value
