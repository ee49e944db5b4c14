use mathlib.Core.Path.{ap, ap₂, sym, ◌∙◌}
use lib.IntN.{ℤ, pos, ◌-ℤ◌}
use lib.Signed.{le_z}
use mir.Facts.{to_z-of_z}
use Rattle.num.specs.Numbers.{wrap, larger_of}
use Rattle.num.proofs.Bits.{back, told_le}
use Rattle.column.proofs.Naturals.{to_nat-below}
use Rattle.reduce.specs.Workers.{divisor_of}
use Rattle.reduce.proofs.Divisor.{divisor_none, divisor_some}
use Rattle.reduce.proofs.inner.divisor.Goals as goal

pub returns-then-length-ddof : goal.returns-then-length-ddof
returns-then-length-ddof c =
    divisor_none _ c.args.ddof (ap (λ (z : ℤ). le_z z c.args.ddof) (sym c.requires) ∙ told_le c.ranges.length c.ranges.ddof c.if-length-ddof.true)
    ∙ ap (λ (z : ℤ). divisor_of z c.args.ddof) (sym c.requires)

pub returns : goal.returns
returns c =
    let f = c.ranges in
    let m = c.wrapping_sub in
    let less = back _ m.type_inv ∙ m.ensures ∙ ap₂ (λ (a b : ℤ). wrap (a -ℤ b)) (to_z-of_z f.length ∙ c.requires) (to_z-of_z f.ddof) in
    let above = ap (λ (z : ℤ). le_z z c.args.ddof) (sym c.requires) ∙ told_le f.length f.ddof c.if-length-ddof.false in
    back _ c.larger.type_inv ∙ c.larger.ensures ∙ ap (λ (z : ℤ). larger_of z (pos 0)) less
    ∙ divisor_some _ c.args.ddof (to_nat-below _ f.length) f.ddof above ∙ ap (λ (z : ℤ). divisor_of z c.args.ddof) (sym c.requires)
