use mathlib.Core.Path.{sym, ◌∙◌}
use mir.Facts.{to_z-of_z}
use Rattle.column.proofs.YesNo.{long-yes, long-refused}
use Rattle.num.proofs.Bits.{told_lt}
use Rattle.questions.proofs.ask_length.Goals as goal

pub returns-then-requested-required : goal.returns-then-requested-required
returns-then-requested-required c =
    let f = c.ranges in
    rw (to_z-of_z f.requested, to_z-of_z f.required) at c.no.ensures
    ∙ sym (long-refused _ _ (told_lt f.requested f.required c.if-requested-required.true))

pub returns-else-requested-required : goal.returns-else-requested-required
returns-else-requested-required c = let f = c.ranges in sym (long-yes _ _ (told_lt f.requested f.required c.if-requested-required.false))
