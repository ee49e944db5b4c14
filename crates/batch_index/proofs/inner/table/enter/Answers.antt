use mathlib.Core.Path.{refl, sym, ◌∙◌}
use Rattle.batch_index.proofs.Table.{entered_set, entered_unset}
use Rattle.batch_index.proofs.inner.table.enter.Goals as goal

pub returns-then-is_set : goal.returns-then-is_set
returns-then-is_set c = entered_set _ _ _ _ _ c.mixed-x.ensures (sym c.is_set.ensures ∙ c.if-is_set.true) c.put.ensures

pub returns : goal.returns
returns c = entered_unset _ _ _ _ _ c.mixed-x.ensures (sym c.is_set.ensures ∙ c.if-is_set.false) refl
