use mathlib.Core.Path.{◌∙◌}
use borrow.Author.Tests.{le-leb, lt-leb}
use Rattle.column.specs.Questions.{at_most}
use Rattle.questions.proofs.ask_columns.Goals as goal

pub returns-then-columns-limit : goal.returns-then-columns-limit
unfolding at_most
returns-then-columns-limit c = simp (le-leb _ _ c.if-columns-limit.true)

pub returns-else-columns-limit : goal.returns-else-columns-limit
unfolding at_most
returns-else-columns-limit c = c.no.ensures ∙ simp (lt-leb _ _ c.if-columns-limit.false)
