use mathlib.Core.Path.{sym, ◌∙◌}
use Rattle.batch_keys.proofs.Doubles.{ascends-first}
use Rattle.batch_keys.proofs.first_duplicate.Goals as goal

pub returns-then-ascends : goal.returns-then-ascends
returns-then-ascends c = ascends-first _ (sym c.ascends.ensures ∙ c.if-ascends.true)
