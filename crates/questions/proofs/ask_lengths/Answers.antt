use mathlib.Core.Path.{◌∙◌}
use borrow.Author.Tests.{eq-eqb, ne_eqb}
use Rattle.column.specs.Questions.{agree}
use Rattle.questions.proofs.ask_lengths.Goals as goal

pub returns-then-left-right : goal.returns-then-left-right
unfolding agree
returns-then-left-right c = simp (eq-eqb _ _ c.if-left-right.true)

pub returns-else-left-right : goal.returns-else-left-right
unfolding agree
returns-else-left-right c = c.no.ensures ∙ simp (ne_eqb _ _ c.if-left-right.false)
