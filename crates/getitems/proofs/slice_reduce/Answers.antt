use mathlib.Core.Path.{sym}
use mir.Facts.{to_z-of_z}
use Rattle.getitems.specs.Calls.{slice_reduce}
use Rattle.getitems.proofs.Reductions.{reduce-yes}
use Rattle.reduce.proofs.Intervals.{reductions-written, reductions-refused}
use Rattle.getitems.proofs.slice_reduce.Goals as goal

pub slice_reduce-n-requires : goal.slice_reduce-n-requires
slice_reduce-n-requires c = reduce-yes _ _ _ _ c.args.code c.args.out_kinds.now c.args.out_bits.now (sym c.in_ok-slice_reduce_asks.ensures)

pub returns : goal.returns
unfolding slice_reduce
returns c = reductions-written _ (sym c.in_ok-slice_reduce_asks.ensures) (rw (to_z-of_z c.ranges.ddof) at c.slice_reduce-n.ensures)

pub returns-in_err-slice_reduce_asks : goal.returns-in_err-slice_reduce_asks
unfolding slice_reduce
returns-in_err-slice_reduce_asks c = reductions-refused _ _ _ c.from_residual.ensures.1 c.in_err-slice_reduce_asks.ensures
