use mathlib.Core.Path.{◌∙◌}
use native.Mathlib.Omega.{arith}
use Rattle.num.proofs.Bits.{back}
use Rattle.zip_many.proofs.Ranging.{ranging_none, ranging_start, ranging_next, ranging_end}
use Rattle.zip_many.proofs.least_and_greatest.Goals as goal

pub returns-then-offsets-lt2 : goal.returns-then-offsets-lt2
returns-then-offsets-lt2 c = let a = c.args in ranging_none a.offsets.now a.ends.now c.if-offsets-lt2.true

pub loop-c-init : goal.loop-c-init
loop-c-init c = let e = back _ c.length_at-least.type_inv ∙ c.length_at-least.ensures in ranging_start _ _ c.if-offsets-lt2.false e e

pub loop-c-preserved : goal.loop-c-preserved
loop-c-preserved c =
    ranging_next _ _ c.loop-c.invariant (omega arith) (back _ c.length_at-length.type_inv ∙ c.length_at-length.ensures)
    (back _ c.smaller-least.type_inv ∙ c.smaller-least.ensures) (back _ c.larger-greatest.type_inv ∙ c.larger-greatest.ensures)

pub returns : goal.returns
returns c = ranging_end _ _ c.loop-c.invariant (omega arith)
