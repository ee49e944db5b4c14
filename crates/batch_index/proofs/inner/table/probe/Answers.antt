use Rattle.batch_index.proofs.Table.{probing_empty, probing_found, probing_next, probing_end}
use Rattle.batch_index.proofs.inner.table.probe.Goals as goal

pub returns-then-keys-at : goal.returns-then-keys-at
returns-then-keys-at c = probing_empty c.loop-d.invariant c.loop-d-test.true c.mixed-x.ensures c.place.ensures.0 c.widened-at.ensures c.if-keys-at.true

pub returns-then-keys-at-2 : goal.returns-then-keys-at-2
returns-then-keys-at-2 c =
    probing_found c.loop-d.invariant c.loop-d-test.true c.mixed-x.ensures c.place.ensures.0 c.widened-at.ensures
    c.if-keys-at.false c.if-keys-at-2.true

pub loop-d-preserved : goal.loop-d-preserved
loop-d-preserved c =
    probing_next c.loop-d.invariant c.loop-d-test.true c.mixed-x.ensures c.place.ensures.0 c.widened-at.ensures
    c.if-keys-at.false c.if-keys-at-2.false

pub returns : goal.returns
returns c = probing_end c.loop-d.invariant c.loop-d-test.false
