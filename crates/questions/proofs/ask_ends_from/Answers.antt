use mathlib.Core.Path.{sym, ◌∙◌}
use lib.ListN.{get_or}
use lib.IntN.{pos}
use mir.Facts.{to_z-of_z}
use Rattle.num.proofs.Bits.{back}
use Rattle.column.proofs.YesNo.{ends_next, ends-refused, ends-end}
use Rattle.questions.proofs.ask_ends_from.Goals as goal

pub returns-then-end-before : goal.returns-then-end-before
returns-then-end-before c =
    let e = back (get_or c.args.ends.now c.loop-i.i (pos 0)) c.end-1.given in
    c.no.ensures
    ∙ sym (rw (to_z-of_z c.ranges.first) at c.loop-i.invariant ∙ ends-refused _ _ _ c.loop-i-test.true
    (rw e at c.if-end-before.true))

pub loop-i-preserved : goal.loop-i-preserved
loop-i-preserved c =
    let e = back (get_or c.args.ends.now c.loop-i.i (pos 0)) c.end-1.given in
    rw e (c.loop-i.invariant ∙ ends_next _ _ _ c.loop-i-test.true (rw e at c.if-end-before.false))

pub returns : goal.returns
returns c = sym (rw (to_z-of_z c.ranges.first) at c.loop-i.invariant ∙ ends-end _ _ _ c.loop-i-test.false)
