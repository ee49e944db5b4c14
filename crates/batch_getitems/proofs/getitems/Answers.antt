use mathlib.Core.Path.{sym}
use native.Mathlib.Omega.{arith}
use Rattle.column.proofs.Laying.{flat-written, flat-refused}
use Rattle.batch.proofs.Asks.{first-refused}
use Rattle.batch_intervals.proofs.Slices.{items-many}
use Rattle.batch_getitems.specs.Calls.{getitems}
use Rattle.batch_getitems.proofs.Asks.{items-told, room-asked, gettable}
use Rattle.batch_getitems.proofs.getitems.Goals as goal

pub returns-in_err-getitems_asks : goal.returns-in_err-getitems_asks
unfolding getitems
returns-in_err-getitems_asks c = flat-refused _ _ _ c.from_residual.ensures.1 (first-refused _ c.in_err-getitems_asks.ensures)

pub count_items-needed-requires : goal.count_items-needed-requires
count_items-needed-requires c = (items-told _ _ _ _ _ _ _ (sym c.in_ok-getitems_asks.ensures), c.quick_order-order.ensures)

pub returns-in_err-ask_flat_room : goal.returns-in_err-ask_flat_room
unfolding getitems
returns-in_err-ask_flat_room c =
    flat-refused _ _ _ c.from_residual-in_err-ask_flat_room.ensures.1
    (room-asked _ _ _ _ _ _ _ _ _ _ c.in_ok-getitems_asks.ensures c.count_items-needed.ensures c.in_err-ask_flat_room.ensures
    (omega (arith, c.well_formed)) (omega (arith, c.well_formed)))

pub getitems-runs-requires : goal.getitems-runs-requires
getitems-runs-requires c = (
  gettable _ _ _ _ _ _ _ _ _ _
      (room-asked _ _ _ _ _ _ _ _ _ _ c.in_ok-getitems_asks.ensures c.count_items-needed.ensures c.in_ok-ask_flat_room.ensures
      (omega (arith, c.well_formed)) (omega (arith, c.well_formed))),
  c.quick_order-order.ensures,
)

pub returns : goal.returns
unfolding getitems
returns c =
    flat-written _
    (sym (room-asked _ _ _ _ _ _ _ _ _ _ c.in_ok-getitems_asks.ensures c.count_items-needed.ensures c.in_ok-ask_flat_room.ensures
    (omega (arith, c.well_formed)) (omega (arith, c.well_formed))))
    (sym (items-many (items-told _ _ _ _ _ _ _ (sym c.in_ok-getitems_asks.ensures)))) c.getitems-runs.ensures
