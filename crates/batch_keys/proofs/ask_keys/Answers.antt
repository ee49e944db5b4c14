use Rattle.batch_keys.proofs.Doubles.{first-refused, first-none}
use Rattle.batch_keys.proofs.ask_keys.Goals as goal

pub returns-then-position-keys : goal.returns-then-position-keys
returns-then-position-keys c = first-refused _ c.first_duplicate-position.ensures c.if-position-keys.true

pub returns-else-position-keys : goal.returns-else-position-keys
returns-else-position-keys c = first-none _ c.first_duplicate-position.ensures c.if-position-keys.false
