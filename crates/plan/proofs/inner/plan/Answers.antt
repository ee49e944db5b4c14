use native.Mathlib.Omega.{arith}
use Rattle.plan.proofs.Walking.{walk-moves}
use Rattle.plan.proofs.Step.{more_left, none_more}
use Rattle.plan.proofs.Planning.{planning-start, planning-next, planning-end}
use borrow.Author.Rules.{rules}
use Rattle.plan.proofs.inner.plan.Goals as goal

pub loop-here-init : goal.loop-here-init
loop-here-init c = planning-start _ _ _ _ _ c.start-here.ensures

pub loop-here-smaller : goal.loop-here-smaller
loop-here-smaller c =
    omega (arith, walk-moves _ _ c.loop-here.invariant.walk c.next-segment.ensures, (more_left c.loop-here.invariant.walk.standing c.more.ensures c.loop-here-test.true).1)

pub loop-here-preserved : goal.loop-here-preserved
loop-here-preserved c =
    let p = c.loop-here.invariant in
    let (_, left) = more_left p.walk.standing c.more.ensures c.loop-here-test.true in
    let q = c.requires in
    planning-next p c.next-segment.ensures (search rules) left q.2 q.3 q.4

pub returns : goal.returns
returns c = let k = c.loop-here.invariant in planning-end k (none_more k.walk.standing c.more.ensures c.loop-here-test.false)
