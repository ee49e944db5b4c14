use mathlib.Core.List.{[], ◌∷◌}
use mathlib.Core.Path.{sym, ◌∙◌}
use Rattle.num.proofs.Bits.{back}
use Rattle.column.proofs.FirstNo.{ends_within, goes_on_after, alone}
use Rattle.dense.specs.Calls.{to_dense_asked}
use Rattle.dense.proofs.Asks.{dense-room}
use Rattle.dense.proofs.to_dense_asks.Goals as goal

pub returns-in_err-ask_sequence : goal.returns-in_err-ask_sequence
unfolding to_dense_asked
returns-in_err-ask_sequence c = ends_within _ _ (_ ∷ _ ∷ []) _ c.from_residual.ensures.1 c.in_err-ask_sequence.ensures

pub returns : goal.returns
unfolding to_dense_asked
returns c =
    let a = c.args in
    let end = back _ c.length.type_inv ∙ c.length.ensures in
    let room = dense-room a.ends.now a.values.now a.out (sym c.in_ok-ask_sequence.ensures) c.ask_room.ensures c.to_nat-needed.ensures end in
    goes_on_after (_ ∷ _ ∷ []) _ c.in_ok-ask_sequence.ensures (room ∙ sym (alone _))
