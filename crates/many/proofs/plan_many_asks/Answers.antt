use native.Mathlib.Omega.{arith}
use Rattle.plan.proofs.InTurn.{in_turn, in_rooms}
use Rattle.many.specs.Calls.{plan_many_asked}
use Rattle.many.proofs.Asks.{indexes-asked}
use Rattle.many.proofs.plan_many_asks.Goals as goal

pub returns : goal.returns
unfolding plan_many_asked
returns c small =
    let room = indexes-asked _ _ _ c.count-k.ensures c.saturating_mul-indexes.ensures c.ask_room-2.ensures small in
    grind (arith, in_turn, in_rooms, room)
