use native.Mathlib.Omega.{arith}
use borrow.Author.Tests.{ltb-true}
use mathlib.Core.Path.{refl}
use Rattle.batch_index.proofs.Links.{linking_start, linking-more, linking_end, found-stands}
use Rattle.batch_index.proofs.Table.{looked_up-position}
use borrow.Author.Rules.{rules}
use Rattle.batch_index.proofs.inner.links.link_keys.Goals as goal

pub loop-i-init : goal.loop-i-init
loop-i-init c = (search rules, linking_start _ _ _ _ (search rules))

pub loop-i-preserved-then-head : goal.loop-i-preserved-then-head
loop-i-preserved-then-head c =
    let inv = c.loop-i.invariant in
    let pre = c.requires in (
      search rules,
      linking-more _ _ _ _ inv.1 (search rules) c.look_up-w.ensures c.if-w-end.true
          (found-stands _ _ _ pre.1.begun pre.1.within (looked_up-position _ _ _) c.look_up-w.ensures (omega (
            arith,
            c.if-w-end.true,
            pre.3.within,
          )))
          refl c.if-head.true (omega (arith, c.if-count-eq-CAPACITY.false, inv.1.room)) (omega (
            arith,
            pre.0.firsts,
            pre.1.short,
            pre.3.within,
          )) (omega (arith, pre.0.nexts)) (omega (arith, pre.0.positions)),
    )

pub returns : goal.returns
returns c =
    let pre = c.requires in
    let inv = c.loop-i.invariant in
    linking_end _ _ _ _ pre.3 refl pre.1.within (looked_up-position _ _ _) (omega (arith, pre.0.firsts, pre.1.short, pre.3.within))
    (omega (arith, pre.0.nexts)) (omega (arith, pre.0.positions)) inv.1 (omega arith) refl refl refl (ltb-true _ _)
