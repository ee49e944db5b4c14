use mathlib.Core.Path.{sym, ◌∙◌}
use mir.Facts.{to_z-of_z}
use Rattle.column.proofs.YesNo.{negative_yes, negative_refused}
use Rattle.questions.proofs.ask_run.Goals as goal

pub returns-then-run-lt0 : goal.returns-then-run-lt0
returns-then-run-lt0 c = let f = c.ranges.run in rw (to_z-of_z f) at c.no.ensures ∙ sym (negative_refused _ _ (rw (to_z-of_z f) at c.if-run-lt0.true))

pub returns-else-run-lt0 : goal.returns-else-run-lt0
returns-else-run-lt0 c = let f = c.ranges.run in sym (negative_yes _ _ (rw (to_z-of_z f) at c.if-run-lt0.false))
