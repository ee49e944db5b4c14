use mathlib.Core.Path.{sym}
use native.Mathlib.Omega.{arith}
use Rattle.getitems.specs.Calls.{getitems}
use Rattle.getitems.proofs.Asks.{getitems-yes}
use Rattle.getitems.proofs.Items.{length-items}
use Rattle.column.proofs.Laying.{flat-written, flat-refused}
use Rattle.getitems.proofs.getitems.Goals as goal

pub returns-in_err-getitems_asks : goal.returns-in_err-getitems_asks
unfolding getitems
returns-in_err-getitems_asks c =
    flat-refused _ _ _ c.from_residual.ensures.1 (c.in_err-getitems_asks.ensures (omega (arith, c.well_formed)) (omega (arith, c.well_formed)))

pub getitems-runs-requires : goal.getitems-runs-requires
getitems-runs-requires c =
    getitems-yes _ _ _ _ _ _ _ (sym (c.in_ok-getitems_asks.ensures (omega (arith, c.well_formed)) (omega (arith, c.well_formed))))

pub returns : goal.returns
unfolding getitems
returns c =
    let a = c.args in
    let y = sym (c.in_ok-getitems_asks.ensures (omega (arith, c.well_formed)) (omega (arith, c.well_formed))) in
    let g = getitems-yes a.ends.now a.values.now a.starts.now a.stops.now a.out_offsets.now a.out_ends.now a.out_values.now y in
    flat-written _ y (sym (length-items a.starts.now a.stops.now _ g.intervals)) c.getitems-runs.ensures
