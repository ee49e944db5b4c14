use Rattle.batch_collapse.proofs.Filling.{value-groups}
use Rattle.batch_collapse.proofs.inner.ask_groups.Goals as goal

pub returns-in-Some : goal.returns-in-Some
returns-in-Some c = value-groups _ _ _ c.in-Some.is
