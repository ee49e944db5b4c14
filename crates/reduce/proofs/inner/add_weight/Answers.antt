use mathlib.Core.Path.{ap₂, ◌∙◌}
use lib.IntN.{ℤ, ◌+ℤ◌, ◌*ℤ◌}
use mir.Facts.{to_z-of_z}
use Rattle.num.specs.Numbers.{wrap}
use Rattle.num.proofs.Bits.{back}
use Rattle.num.proofs.Wrap.{wrap-add-right}
use Rattle.reduce.proofs.inner.add_weight.Goals as goal

pub returns : goal.returns
returns c =
    let m = c.wrapping_mul in
    back _ c.wrapping_add.type_inv ∙ c.wrapping_add.ensures ∙ ap₂ (λ (a b : ℤ). wrap (a +ℤ b)) (to_z-of_z c.ranges.total)
    (back _ m.type_inv ∙ m.ensures ∙ ap₂ (λ (a b : ℤ). wrap (a *ℤ b)) (to_z-of_z c.ranges.run ∙ c.requires) (to_z-of_z c.ranges.value))
    ∙ wrap-add-right c.args.total _
