use Rattle.column.proofs.YesNo.{rise-yes, rise-refused}
use mathlib.Core.Path.{sym, ◌∙◌}
use Rattle.questions.proofs.ask_offsets_rise.Goals as goal

pub returns-then-start_and_rise : goal.returns-then-start_and_rise
returns-then-start_and_rise c = sym (rise-yes _ (sym c.start_and_rise.ensures ∙ c.if-start_and_rise.true))

pub returns-else-start_and_rise : goal.returns-else-start_and_rise
returns-else-start_and_rise c = c.no.ensures ∙ sym (rise-refused _ (sym c.start_and_rise.ensures ∙ c.if-start_and_rise.false))
