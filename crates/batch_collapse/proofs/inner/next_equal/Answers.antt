use Rattle.batch_collapse.proofs.Next.{member_gone}
use Rattle.batch_collapse.proofs.inner.next_equal.Goals as goal

pub returns-else-keys-next : goal.returns-else-keys-next
returns-else-keys-next c = member_gone _ _ (c.requires.0 (c.if-not-together.false)) c.if-next-keys.true c.if-keys-next.false
