use mathlib.Core.Path.{◌∙◌}
use borrow.Author.Tests.{le-leb, lt-leb}
use Rattle.column.specs.Questions.{listed}
use Rattle.questions.proofs.ask_code.Goals as goal

pub returns-then-code-low : goal.returns-then-code-low
unfolding listed
returns-then-code-low c = c.no.ensures ∙ simp (lt-leb _ _ c.if-code-low.true)

pub returns-then-high-code : goal.returns-then-high-code
unfolding listed
returns-then-high-code c = c.no-then-high-code.ensures ∙ simp (le-leb _ _ c.if-code-low.false, lt-leb _ _ c.if-high-code.true)

pub returns : goal.returns
unfolding listed
returns c = simp (le-leb _ _ c.if-code-low.false, le-leb _ _ c.if-high-code.false)
