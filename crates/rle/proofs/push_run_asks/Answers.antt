use Prim.Native.Nat.{◌+◌}
use lib.IntN.{ℤ}
use mathlib.Core.Path.{ap, ◌∙◌}
use native.Mathlib.Omega.{arith}
use mir.Facts.{to_z-of_z}
use Rattle.num.proofs.Bits.{back}
use Rattle.column.specs.Questions.{fits}
use Rattle.column.specs.Runs.{to_nat}
use Rattle.column.proofs.FirstNo.{ends_at, goes_on, alone}
use Rattle.rle.specs.Calls.{push_run_asked}
use Rattle.rle.proofs.Asks.{used-length, used-room}
use Rattle.rle.proofs.push_run_asks.Goals as goal

pub returns-in_err-ask_sum : goal.returns-in_err-ask_sum
unfolding push_run_asked
returns-in_err-ask_sum c =
    let run = c.args.run in
    let length = back _ c.length-length.type_inv ∙ c.length-length.ensures in
    let present = used-length _ _ _ c.in_ok-ask_used.ensures c.part-present.ensures c.in_ok-ask_ends.ensures length in
    let sum = rw (to_z-of_z c.ranges.run) at c.in_err-ask_sum.ensures ∙ ap (λ (x : ℤ). fits (to_nat x + to_nat run)) present in
    grind (arith, ends_at, goes_on, sum)

pub returns : goal.returns
unfolding push_run_asked
returns c =
    let run = c.args.run in
    let length = back _ c.length-length.type_inv ∙ c.length-length.ensures in
    let present = used-length _ _ _ c.in_ok-ask_used.ensures c.part-present.ensures c.in_ok-ask_ends.ensures length in
    let sum = rw (to_z-of_z c.ranges.run) at c.in_ok-ask_sum.ensures ∙ ap (λ (x : ℤ). fits (to_nat x + to_nat run)) present in
    let room = used-room _ _ _ c.in_ok-ask_used.ensures (omega arith) c.room_for_one.ensures in
    grind (arith, goes_on, alone, sum, room)
