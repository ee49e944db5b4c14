use mathlib.Core.Path.{sym, ◌∙◌}
use Rattle.column.proofs.YesNo.{fits-yes, fits_refused}
use Rattle.questions.proofs.ask_fits.Goals as goal

pub returns-then-length-lt-LIMIT : goal.returns-then-length-lt-LIMIT
returns-then-length-lt-LIMIT c = sym (fits-yes _ c.if-length-lt-LIMIT.true)

pub returns-else-length-lt-LIMIT : goal.returns-else-length-lt-LIMIT
returns-else-length-lt-LIMIT c = c.no.ensures ∙ sym (fits_refused _ c.if-length-lt-LIMIT.false)
