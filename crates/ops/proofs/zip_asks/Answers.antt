use mathlib.Core.Path.{◌∙◌}
use native.Mathlib.Omega.{arith}
use Rattle.num.proofs.Bits.{back}
use Rattle.column.specs.Questions.{paired}
use Rattle.plan.proofs.InTurn.{in_turn}
use Rattle.ops.specs.Calls.{zip_asked}
use Rattle.ops.proofs.Asks.{filled-asked}
use Rattle.ops.proofs.zip_asks.Goals as goal

pub returns-in_err-ask_fills : goal.returns-in_err-ask_fills
unfolding zip_asked paired
returns-in_err-ask_fills c =
    let left = back _ c.length-left.type_inv ∙ c.length-left.ensures in
    let right = back _ c.length-right.type_inv ∙ c.length-right.ensures in
    let fills = filled-asked _ _ _ _ _ _ c.in_err-ask_fills.ensures left right c.in_ok-ask_lengths.ensures c.in_ok-ask_lengths-2.ensures
    c.in_ok-ask_ends.ensures c.in_ok-ask_ends-2.ensures in
    grind (arith, in_turn, fills)

pub returns : goal.returns
unfolding zip_asked paired
returns c =
    let left = back _ c.length-left.type_inv ∙ c.length-left.ensures in
    let right = back _ c.length-right.type_inv ∙ c.length-right.ensures in
    let fills = filled-asked _ _ _ _ _ _ c.in_ok-ask_fills.ensures left right c.in_ok-ask_lengths.ensures c.in_ok-ask_lengths-2.ensures
    c.in_ok-ask_ends.ensures c.in_ok-ask_ends-2.ensures in
    grind (arith, in_turn, fills)
