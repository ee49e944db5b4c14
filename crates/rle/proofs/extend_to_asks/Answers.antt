use mathlib.Core.Path.{ap, ◌∙◌}
use native.Mathlib.Omega.{arith}
use mir.Facts.{to_z-of_z}
use Rattle.num.proofs.Bits.{back}
use Rattle.column.specs.Questions.{long_enough}
use Rattle.column.proofs.FirstNo.{ends_at, goes_on, alone}
use Rattle.rle.specs.Calls.{extend_to_asked}
use Rattle.rle.proofs.Asks.{used-length, used-room}
use Rattle.rle.proofs.extend_to_asks.Goals as goal

pub returns-in_err-ask_length : goal.returns-in_err-ask_length
unfolding extend_to_asked
returns-in_err-ask_length c =
    let required = back _ c.length-required.type_inv ∙ c.length-required.ensures in
    let present = used-length _ _ _ c.in_ok-ask_used.ensures c.part-present.ensures c.in_ok-ask_ends.ensures required in
    let long = rw (to_z-of_z c.ranges.length) at c.in_err-ask_length.ensures ∙ ap (long_enough c.args.length) present in
    grind (arith, ends_at, goes_on, long)

pub returns : goal.returns
unfolding extend_to_asked
returns c =
    let required = back _ c.length-required.type_inv ∙ c.length-required.ensures in
    let present = used-length _ _ _ c.in_ok-ask_used.ensures c.part-present.ensures c.in_ok-ask_ends.ensures required in
    let long = rw (to_z-of_z c.ranges.length) at c.in_ok-ask_length.ensures ∙ ap (long_enough c.args.length) present in
    let room = used-room _ _ _ c.in_ok-ask_used.ensures (omega arith) c.room_for_one.ensures in
    grind (arith, goes_on, alone, long, room)
