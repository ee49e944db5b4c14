use mathlib.Core.Path.{ap, ◌∙◌}
use native.Mathlib.Omega.{arith}
use Rattle.column.specs.Questions.{agree, mask_agrees}
use Rattle.questions.proofs.ask_mask_length.Goals as goal

pub returns-then-ends-eq0 : goal.returns-then-ends-eq0
unfolding mask_agrees
returns-then-ends-eq0 c = c.ask_lengths.ensures ∙ ap (agree 6 _) (omega (arith, c.if-ends-eq0.true))

pub returns-else-ends-eq0 : goal.returns-else-ends-eq0
unfolding mask_agrees
returns-else-ends-eq0 c = c.ask_lengths-else-ends-eq0.ensures
