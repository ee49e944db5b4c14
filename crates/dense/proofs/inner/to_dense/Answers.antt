use native.Mathlib.Omega.{arith}
use Rattle.num.proofs.Bits.{back, end_nat}
use Rattle.column.proofs.Ends.{rising}
use Rattle.dense.proofs.inner.to_dense.Invariants.{inv-start, inv-end, at-run, inv-inside, inv-more}
use Rattle.dense.proofs.inner.to_dense.Goals as goal

pub loop-r-init : goal.loop-r-init
loop-r-init c = inv-start _ _ _ (rising _ c.requires.0)

pub fill-requires : goal.fill-requires
fill-requires c =
    let q = c.requires in
    let a = at-run c.loop-r.invariant (omega arith) q.1 in
    omega (arith, a.1, inv-inside c.loop-r.invariant (omega arith) q.1, end_nat a.0 (omega arith), q.2)

pub loop-r-preserved : goal.loop-r-preserved
loop-r-preserved c =
    let q = c.requires in
    let a = at-run c.loop-r.invariant (omega arith) q.1 in
    inv-more c.loop-r.invariant (omega arith) q.1 (end_nat a.0 (omega arith)) (back _ (omega arith)) c.fill.ensures

pub returns : goal.returns
returns c = inv-end c.loop-r.invariant (omega arith)
