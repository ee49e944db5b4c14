use lib.IntN.{pos}
use lib.ListN.{get_or}
use mir.Facts.{to_z-of_z}
use Rattle.num.proofs.Bits.{back}
use Rattle.from_runs.proofs.inner.from_runs.Invariants.{inv-start, inv-end, inv-fits, inv-more}
use Rattle.from_runs.proofs.inner.from_runs.Goals as goal

pub loop-i-init : goal.loop-i-init
loop-i-init c = inv-start _ _ _ _ c.requires.1

pub overflow_add-end : goal.overflow_add-end
overflow_add-end c = inv-fits c.loop-i.invariant c.loop-i-test.true (back _ c.run-1.given)

pub loop-i-preserved : goal.loop-i-preserved
loop-i-preserved c =
    let t = c.loop-i-test.true in
    let s = c.requires in
    let r = back (get_or c.args.runs.now c.loop-i.i (pos 0)) c.run-1.given in
    inv-more c.loop-i.invariant t s.0 s.2 s.3 r (back _ c.value-1.given) (to_z-of_z (inv-fits c.loop-i.invariant t r)) c.put_run-n.ensures

pub returns : goal.returns
returns c = inv-end c.loop-i.invariant c.loop-i-test.false
