use mathlib.Core.Path.{sym, ◌∙◌}
use Rattle.column.proofs.Masks.{mask_yes, mask_refused}
use Rattle.questions.proofs.ask_mask.Goals as goal

pub returns-then-i-mask : goal.returns-then-i-mask
returns-then-i-mask c = c.no.ensures ∙ sym (mask_refused _ c.first_unlisted-i.ensures c.if-i-mask.true)

pub returns-else-i-mask : goal.returns-else-i-mask
returns-else-i-mask c = sym (mask_yes _ c.first_unlisted-i.ensures c.if-i-mask.false)
