use Rattle.batch_index.proofs.Table.{looked_up-set, looked_up_unset}
use mathlib.Core.Path.{sym, ◌∙◌}
use Rattle.batch_index.proofs.inner.table.look_up.Goals as goal

pub returns-then-is_set : goal.returns-then-is_set
returns-then-is_set c = looked_up-set _ _ _ _ c.mixed-x.ensures (sym c.is_set.ensures ∙ c.if-is_set.true) c.probe.ensures

pub returns : goal.returns
returns c = looked_up_unset _ _ _ _ c.mixed-x.ensures (sym c.is_set.ensures ∙ c.if-is_set.false)
