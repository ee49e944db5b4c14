use Rattle.column.proofs.YesNo.{offsets-yes, offsets_fall, offsets-refused}
use mathlib.Core.Path.{sym, ◌∙◌}
use Rattle.questions.proofs.ask_offsets.Goals as goal

pub returns-then-not-start_and_rise : goal.returns-then-not-start_and_rise
returns-then-not-start_and_rise c = c.no.ensures ∙ sym (offsets_fall _ _ (sym c.start_and_rise.ensures ∙ c.if-not-start_and_rise.true))

pub returns-then-last_offset-ends : goal.returns-then-last_offset-ends
returns-then-last_offset-ends c =
    sym (offsets-yes _ _ (sym c.start_and_rise.ensures ∙ c.if-not-start_and_rise.false)
    (sym c.last_offset.ensures ∙ c.if-last_offset-ends.true))

pub returns-else-last_offset-ends : goal.returns-else-last_offset-ends
returns-else-last_offset-ends c =
    c.no-else-last_offset-ends.ensures
    ∙ sym (offsets-refused _ _ (sym c.start_and_rise.ensures ∙ c.if-not-start_and_rise.false)
    (λ e. c.if-last_offset-ends.false (c.last_offset.ensures ∙ e)))
