use mathlib.Core.Path.{refl}
use native.Mathlib.Omega.{arith}
use Rattle.batch.proofs.Asks.{both_told}
use Rattle.batch_concat.proofs.Promised.{concat-misfit, concat-room, concat-written, concat-refused}
use Rattle.batch_concat.proofs.concat_by.Goals as goal

pub ask_joined-requires : goal.ask_joined-requires
ask_joined-requires c =
    let v = both_told _ _ _ _ _ _ _ _ c.requires.0 in
    (v.0, v.1, c.requires.1, c.requires.2)

pub returns-in_err-ask_joined : goal.returns-in_err-ask_joined
returns-in_err-ask_joined c = concat-misfit _ _ _ _ _ _ _ _ _ _ _ _ c.requires.0 _ _ c.from_residual.ensures.1 c.in_err-ask_joined.ensures

pub returns-in_err-ask_room : goal.returns-in_err-ask_room
returns-in_err-ask_room c =
    concat-refused _ _ _ _ _ _ _ _ _ _ _ _ c.requires.0 c.in_ok-ask_joined.ensures c.in_err-ask_room.ensures _ _
    c.from_residual-in_err-ask_room.ensures.1 refl

pub concat_keys-joined-requires : goal.concat_keys-joined-requires
concat_keys-joined-requires c = (
  concat-room _ _ _ _ _ _ _ _ _ _ _ _ c.requires.0 c.in_ok-ask_joined.ensures c.in_ok-ask_room.ensures refl,
  c.requires.1,
  λ t. omega (arith, c.requires.2 t),
)

pub returns : goal.returns
returns c =
    concat-written _ _ _ _ _ _ _ _ _ _ _ _ c.requires.0 c.in_ok-ask_joined.ensures c.in_ok-ask_room.ensures refl c.concat_keys-joined.ensures
