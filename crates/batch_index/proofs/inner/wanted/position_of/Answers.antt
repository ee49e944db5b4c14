use mathlib.Core.Path.{◌∙◌}
use Rattle.batch_index.proofs.Wanted.{found-position}
use Rattle.batch_index.proofs.Table.{looked_up-position}
use Rattle.batch_index.proofs.inner.wanted.position_of.Goals as goal

pub returns-then-w-wanted : goal.returns-then-w-wanted
returns-then-w-wanted c =
    c.widened.ensures ∙ found-position _ _ _ (looked_up-position _ _ _)
    c.requires.2 c.look_up-w.ensures c.if-w-wanted.true
