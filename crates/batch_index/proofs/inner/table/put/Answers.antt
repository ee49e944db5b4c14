use mathlib.Core.Path.{refl, sym}
use Rattle.batch_index.proofs.Table.{seeking_next, seeking_put, probing_found, probing_end, put_full, put_found, put_empty}
use borrow.Author.Rules.{rules}
use Rattle.batch_index.proofs.inner.table.put.Goals as goal

pub returns-then-keys-at : goal.returns-then-keys-at
returns-then-keys-at c =
    let inv = c.loop-d.invariant in
    rw (sym inv.0) (put_empty _ _ _ (search rules) (search rules) (seeking_put inv.1 c.loop-d-test.true c.mixed-x.ensures
    c.place-slot.ensures.0 c.widened-at.ensures c.if-keys-at.true c.place-slot.ensures.1 (search rules) refl))

pub returns-then-keys-at-2 : goal.returns-then-keys-at-2
returns-then-keys-at-2 c =
    let inv = c.loop-d.invariant in
    rw (sym inv.0) (put_found _ c.if-keys-at.false (probing_found inv.1.same c.loop-d-test.true
    c.mixed-x.ensures c.place-slot.ensures.0 c.widened-at.ensures c.if-keys-at.false c.if-keys-at-2.true))

pub loop-d-preserved : goal.loop-d-preserved
loop-d-preserved c =
    let inv = c.loop-d.invariant in (
      inv.0,
      seeking_next inv.1 c.loop-d-test.true c.mixed-x.ensures c.place-slot.ensures.0
          c.widened-at.ensures c.if-keys-at.false c.if-keys-at-2.false,
    )

pub returns : goal.returns
returns c = let inv = c.loop-d.invariant in rw (sym inv.0) (put_full _ (probing_end inv.1.same c.loop-d-test.false))
