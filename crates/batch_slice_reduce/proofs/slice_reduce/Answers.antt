use mathlib.Core.Path.{sym}
use mir.Facts.{to_z-of_z}
use Rattle.reduce.proofs.Intervals.{reductions-written, reductions-refused}
use Rattle.batch_slice_reduce.specs.Calls.{slice_reduce}
use Rattle.batch_slice_reduce.proofs.Asks.{reduce-told}
use Rattle.batch_slice_reduce.proofs.slice_reduce.Goals as goal

pub returns-in_err-slice_reduce_asks : goal.returns-in_err-slice_reduce_asks
unfolding slice_reduce
returns-in_err-slice_reduce_asks c = reductions-refused _ _ _ c.from_residual.ensures.1 c.in_err-slice_reduce_asks.ensures

pub slice_reduce-requires : goal.slice_reduce-requires
slice_reduce-requires c = (reduce-told _ _ _ _ _ _ _ _ _ _ (sym c.in_ok-slice_reduce_asks.ensures), c.quick_order-order.ensures)

pub returns : goal.returns
unfolding slice_reduce
returns c = reductions-written _ (sym c.in_ok-slice_reduce_asks.ensures) (rw (to_z-of_z c.ranges.ddof) at c.slice_reduce.ensures)
