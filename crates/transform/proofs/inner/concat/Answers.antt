use mathlib.Core.Path.{◌∙◌}
use native.Mathlib.Omega.{arith}
use Rattle.num.proofs.Bits.{back}
use Rattle.transform.proofs.Joining.{join-none, join-start, join-appendable, join-next, join-end}
use Rattle.transform.proofs.inner.concat.Goals as goal

pub returns-then-ends-eq0 : goal.returns-then-ends-eq0
returns-then-ends-eq0 c = join-none _ _ _ _ _ c.if-ends-eq0.true

pub loop-k-init : goal.loop-k-init
loop-k-init c = join-start _ _ _ _ _ c.requires (back _ (omega arith))

pub append_merged-writer-requires : goal.append_merged-writer-requires
append_merged-writer-requires c = join-appendable _ _ _ _ _ c.requires c.loop-k.invariant (omega arith) c.part-part.ensures c.part-shown.ensures

pub loop-k-preserved : goal.loop-k-preserved
loop-k-preserved c =
    let length = back _ c.length.type_inv ∙ c.length.ensures in
    join-next _ _ _ _ _ c.requires c.loop-k.invariant (omega arith) c.part-part.ensures c.part-shown.ensures c.append_merged-writer.ensures c.to_nat-offset.ensures
    length

pub returns : goal.returns
returns c = join-end _ _ _ _ _ c.requires c.loop-k.invariant (omega arith) c.if-ends-eq0.false
