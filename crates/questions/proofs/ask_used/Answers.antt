use mathlib.Core.Path.{◌∙◌}
use borrow.Author.Tests.{le-leb, lt-leb}
use Rattle.column.specs.Questions.{used_within}
use Rattle.questions.proofs.ask_used.Goals as goal

pub returns-then-used-shorter : goal.returns-then-used-shorter
unfolding used_within
returns-then-used-shorter c = rw (← c.smaller_count-shorter.ensures) (simp (le-leb _ _ c.if-used-shorter.true))

pub returns-else-used-shorter : goal.returns-else-used-shorter
unfolding used_within
returns-else-used-shorter c = c.no.ensures ∙ rw (← c.smaller_count-shorter.ensures) (simp (lt-leb _ _ c.if-used-shorter.false))
