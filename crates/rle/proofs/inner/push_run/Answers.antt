use mir.Facts.{to_z-of_z}
use Rattle.num.proofs.Bits.{back}
use Rattle.rle.proofs.After.{present-length, push_sum, push_fits, push_filled}
use mathlib.Core.Path.{◌∙◌}
use Rattle.rle.proofs.inner.push_run.Goals as goal

pub overflow_add-present : goal.overflow_add-present
overflow_add-present c =
    let a = c.args in
    let q = c.requires in
    let told = present-length a.ends.now a.values.now a.used q.valid q.room_ends q.room_values in
    let x = back c.length-present.result c.length-present.type_inv ∙ told c.length-present.ensures c.part.ensures in
    push_fits _ _ _ _ q x (to_z-of_z c.ranges.run)

pub returns : goal.returns
returns c =
    let a = c.args in
    let q = c.requires in
    let run = to_z-of_z c.ranges.run in
    let told = present-length a.ends.now a.values.now a.used q.valid q.room_ends q.room_values in
    let x = back c.length-present.result c.length-present.type_inv ∙ told c.length-present.ensures c.part.ensures in
    let end = to_z-of_z (push_fits _ _ _ _ q x run) ∙ push_sum _ _ _ _ q x run in
    push_filled _ _ _ _ q run end (to_z-of_z c.ranges.value) c.put_run.ensures
