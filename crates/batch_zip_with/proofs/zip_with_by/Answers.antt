use mathlib.Core.Path.{refl, ap, sym, ◌∙◌}
use native.Mathlib.Omega.{arith}
use Rattle.num.proofs.Bits.{back}
use Rattle.plan.proofs.Fills.{unwrapped}
use Rattle.column.specs.Asking.{shown_asked}
use Rattle.batch.proofs.Laying.{batch-refused}
use Rattle.batch_zip_with.specs.Calls.{zip_with}
use Rattle.batch_zip_with.proofs.Asks.{zip-valid, pairs-refused, all_asked, zip-room, zip-written}
use Rattle.batch_zip_with.proofs.zip_with_by.Goals as goal

pub ask_pairs-pairs-requires : goal.ask_pairs-pairs-requires
ask_pairs-pairs-requires c =
    let v = zip-valid _ _ _ _ c.requires.0 in
    (v.0, v.1, c.requires.1, c.requires.2)

pub returns-in-Err : goal.returns-in-Err
unfolding zip_with
returns-in-Err c =
    batch-refused _ _ c.in-Err.refusal refl
    (pairs-refused _ _ _ _ _ _ c.requires.0 _ _ _ _ (ap shown_asked (sym c.in-Err.is) ∙ c.ask_pairs-pairs.ensures.filled))

pub returns-in_err-ask_room : goal.returns-in_err-ask_room
unfolding zip_with
returns-in_err-ask_room c =
    batch-refused _ _ _ c.from_residual.ensures.1
    (all_asked _ _ _ _ _ _ c.requires.0 _ _ _ _ (omega (arith, c.well_formed)) (omega (arith, c.well_formed)) c.ask_pairs-pairs.ensures c.in_default.is c.in_err-ask_room.ensures)

pub zip_pairs-joined-requires : goal.zip_pairs-joined-requires
zip_pairs-joined-requires c = (
  zip-room _ _ _ _ _ _ _ _ _ _
      (sym (all_asked _ _ _ _ _ _ c.requires.0 _ _ _ _ (omega (arith, c.well_formed)) (omega (arith, c.well_formed)) c.ask_pairs-pairs.ensures c.in_default.is c.in_ok-ask_room.ensures)),
  c.requires.1,
  λ i. omega (arith, c.requires.2 i),
)

pub returns : goal.returns
returns c =
    zip-written _ _ _ _ _ _ (back _ c.unwrap_or.type_inv ∙ c.unwrap_or.ensures ∙ unwrapped c.args.fill_a)
    (back _ c.unwrap_or-2.type_inv ∙ c.unwrap_or-2.ensures ∙ unwrapped c.args.fill_b)
    (sym (all_asked _ _ _ _ _ _ c.requires.0 _ _ _ _ (omega (arith, c.well_formed)) (omega (arith, c.well_formed)) c.ask_pairs-pairs.ensures c.in_default.is c.in_ok-ask_room.ensures))
    c.zip_pairs-joined.ensures
