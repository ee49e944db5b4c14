use mathlib.Core.Path.{sym, ◌∙◌}
use Rattle.num.proofs.Bits.{back}
use mir.Facts.{to_z-of_z}
use Rattle.column.proofs.YesNo.{longer_of_two, fills_first, fills-second, fills-yes}
use Rattle.questions.proofs.ask_fills.Goals as goal

pub returns-then-lacks : goal.returns-then-lacks
returns-then-lacks c =
    let n = c.larger-longest in
    let e = longer_of_two c.larger.ensures (to_z-of_z c.ranges.right) n.ensures (to_z-of_z c.ranges.left)
    (back c.larger.result c.larger.type_inv) in
    rw (to_z-of_z c.ranges.left, to_z-of_z c.ranges.right) at c.no.ensures
    ∙ sym (fills_first _ _ _ c.args.fill_right
    e (rw (to_z-of_z c.ranges.left, back n.result n.type_inv) at (sym c.lacks.ensures ∙ c.if-lacks.true)))

pub returns-then-lacks-2 : goal.returns-then-lacks-2
returns-then-lacks-2 c =
    let n = c.larger-longest in
    let e = longer_of_two c.larger.ensures (to_z-of_z c.ranges.right) n.ensures (to_z-of_z c.ranges.left)
    (back c.larger.result c.larger.type_inv) in
    rw (to_z-of_z c.ranges.left, to_z-of_z c.ranges.right) at c.no-then-lacks-2.ensures
    ∙ sym (fills-second _ _ c.args.fill_left
    _ e
    (rw (to_z-of_z c.ranges.left, back n.result n.type_inv)
    at (sym c.lacks.ensures ∙ c.if-lacks.false))
    (rw (to_z-of_z c.ranges.right, back n.result n.type_inv) at (sym c.lacks-2.ensures ∙ c.if-lacks-2.true)))

pub returns : goal.returns
returns c =
    let n = c.larger-longest in
    let e = longer_of_two c.larger.ensures (to_z-of_z c.ranges.right) n.ensures (to_z-of_z c.ranges.left)
    (back c.larger.result c.larger.type_inv) in
    sym (fills-yes _ _ c.args.fill_left c.args.fill_right
    e (rw (to_z-of_z c.ranges.left, back n.result n.type_inv) at (sym c.lacks.ensures ∙ c.if-lacks.false))
    (rw (to_z-of_z c.ranges.right, back n.result n.type_inv) at (sym c.lacks-2.ensures ∙ c.if-lacks-2.false)))
