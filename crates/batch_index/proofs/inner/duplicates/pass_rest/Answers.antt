use Rattle.batch_index.proofs.Table.{looked_up-position}
use Rattle.batch_index.proofs.Blocks.{resting-found}
use Rattle.batch_index.proofs.inner.duplicates.pass_rest.Goals as goal

pub returns-then-look_up-to : goal.returns-then-look_up-to
returns-then-look_up-to c =
    let pre = c.requires in
    resting-found _ _ pre.0 pre.1 (looked_up-position _ _ _) c.loop-i.invariant c.loop-i-test.true pre.2
    c.look_up.ensures c.if-look_up-to.true
