use native.Mathlib.Omega.{arith}
use borrow.Author.Rules.{rules}
use Rattle.plan.proofs.InTurn.{in_turn}
use Rattle.zip_many.specs.Calls.{zip_many_asked}
use Rattle.zip_many.proofs.Asks.{filled-asked}
use Rattle.zip_many.proofs.zip_many_asks.Goals as goal

pub returns-in_err-ask_fills : goal.returns-in_err-ask_fills
unfolding zip_many_asked
returns-in_err-ask_fills c =
    let fills = filled-asked _ _ _ _ c.in_err-ask_fills.ensures (search rules) (search rules) c.least_and_greatest-lengths.ensures c.in_ok-ask_flat.ensures in
    grind (arith, in_turn, fills)

pub returns : goal.returns
unfolding zip_many_asked
returns c =
    let fills = filled-asked _ _ _ _ c.in_ok-ask_fills.ensures (search rules) (search rules) c.least_and_greatest-lengths.ensures c.in_ok-ask_flat.ensures in
    grind (arith, in_turn, fills)
