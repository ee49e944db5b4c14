use Rattle.std.proofs.Common.{rules}
use Rattle.slice.proofs.Slicing.{slicing_start, slicing-next, slicing-end}
use Rattle.slice.proofs.inner.slice.Goals as goal

pub loop-n-init : goal.loop-n-init
loop-n-init c = slicing_start c.requires

pub loop-n-preserved : goal.loop-n-preserved
loop-n-preserved c =
    slicing-next c.requires _ c.loop-n-test.true c.smaller.ensures c.smaller.type_inv (search rules) (search rules) (search rules)
    c.loop-n.invariant (search rules)

pub returns : goal.returns
returns c = slicing-end c.requires c.loop-n.invariant c.loop-n-test.false
