use Rattle.batch_keys.proofs.Standing.{position-found, position-none}
use Rattle.batch_keys.proofs.position.Goals as goal

pub returns-then-at-keys : goal.returns-then-at-keys
returns-then-at-keys c = position-found _ _ c.scan-at.ensures c.if-at-keys.true

pub returns-else-at-keys : goal.returns-else-at-keys
returns-else-at-keys c = position-none _ _ c.scan-at.ensures c.if-at-keys.false
