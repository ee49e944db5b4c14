use native.Mathlib.Omega.{arith}
use mir.Syntax.{w64}
use mir.Val.{to_z, of_z}
use Rattle.column.proofs.Buffer.{stretched-more}
use Rattle.dense.proofs.inner.fill.Goals as goal

pub loop-p-preserved : goal.loop-p-preserved
loop-p-preserved c =
    let a = c.args in
    rw c.loop-p.invariant (stretched-more a.out.now a.from c.loop-p.p (to_z w64 (of_z w64 a.value)) (omega arith) (omega arith))
