use native.Mathlib.Omega.{arith}
use Rattle.batch_index.proofs.Blocks.{passing-start, passing-end, passing-last}
use Rattle.batch_index.proofs.inner.duplicates.first_duplicate.Goals as goal

pub returns-then-keys-lt-FEW : goal.returns-then-keys-lt-FEW
returns-then-keys-lt-FEW c = passing-last _ (passing-start _) c.scan_each.ensures

pub returns-then-limit-from : goal.returns-then-limit-from
returns-then-limit-from c = passing-end _ c.loop-from.invariant c.if-limit-from.true

pub returns-then-limit-from-2 : goal.returns-then-limit-from-2
returns-then-limit-from-2 c = passing-last _ c.loop-from.invariant c.pass_last.ensures

pub returns-else-keys-lt-FEW : goal.returns-else-keys-lt-FEW
returns-else-keys-lt-FEW c =
    passing-end _ c.loop-from.invariant (omega (arith, c.loop-from-test.false, c.loop-from.invariant.limited.within))
