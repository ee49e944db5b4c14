use mathlib.Core.Path.{◌∙◌}
use native.Mathlib.Omega.{arith}
use Rattle.num.proofs.Bits.{back}
use Rattle.transform.proofs.Joining.{total-start, total-next, total-end}
use Rattle.transform.proofs.total_length.Goals as goal

pub loop-k-init : goal.loop-k-init
loop-k-init c = total-start _ _

pub loop-k-preserved : goal.loop-k-preserved
loop-k-preserved c =
    let length = back _ c.length-length.type_inv ∙ c.length-length.ensures in
    total-next _ _ c.loop-k.invariant (omega arith) c.saturating_add-total.ensures c.to_nat.ensures length c.part.ensures

pub returns : goal.returns
returns c = total-end _ _ c.loop-k.invariant (omega arith)
