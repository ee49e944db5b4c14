use mathlib.Core.Path.{sym, ap, ◌∙◌}
use mir.Syntax.{w64}
use mir.Val.{to_z, of_z}
use mir.Facts.{to_z-of_z}
use Rattle.num.proofs.Bits.{back}
use Rattle.rle.proofs.After.{present-length, extend_same, extend-filled}
use Rattle.rle.proofs.inner.extend_to.Goals as goal

pub returns-then-length-present : goal.returns-then-length-present
returns-then-length-present c =
    let a = c.args in
    let q = c.requires in
    let told = present-length a.ends.now a.values.now a.used q.valid q.room_ends q.room_values in
    let x = back c.length-present.result c.length-present.type_inv ∙ told c.length-present.ensures c.part.ensures in
    extend_same _ _ _ _ q _ (sym (to_z-of_z c.ranges.length) ∙ ap (to_z w64) c.if-length-present.true ∙ x)

pub returns : goal.returns
returns c =
    let a = c.args in
    let q = c.requires in
    let told = present-length a.ends.now a.values.now a.used q.valid q.room_ends q.room_values in
    let x = told c.length-present.ensures c.part.ensures in
    let r = c.last_run-writer.ensures in
    rw (to_z-of_z c.ranges.value)
    at (extend-filled _ _ _ _ q r.0 r.1 r.2 (λ e. c.if-length-present.false (ap (of_z w64) (e ∙ sym x))) (to_z-of_z c.ranges.length)
    c.push_merged-next.ensures)
