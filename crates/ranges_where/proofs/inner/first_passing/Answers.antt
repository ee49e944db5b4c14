use native.Mathlib.Omega.{arith}
use mir.Facts.{to_z-of_z}
use Rattle.num.proofs.Bits.{back}
use Rattle.ranges_where.proofs.Ranging.{first-passing, not-passing}
use Rattle.ranges_where.proofs.inner.first_passing.Goals as goal

pub returns-then-holds : goal.returns-then-holds
returns-then-holds c =
    first-passing c.requires.0 c.requires.1 (to_z-of_z c.ranges.number) _ _ c.loop-i.invariant c.holds.ensures (back _ (omega arith)) (omega arith) c.if-holds.true

pub loop-i-preserved : goal.loop-i-preserved
loop-i-preserved c =
    not-passing c.requires.0 c.requires.1 (to_z-of_z c.ranges.number) _ _ c.loop-i.invariant c.holds.ensures (back _ (omega arith)) (omega arith) c.if-holds.false
