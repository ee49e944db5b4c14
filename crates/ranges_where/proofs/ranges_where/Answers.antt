use mathlib.Core.Path.{sym}
use mir.Facts.{to_z-of_z}
use Rattle.column.specs.Runs.{runs_of}
use Rattle.ranges_where.specs.Calls.{ranges_where}
use Rattle.ranges_where.proofs.Ranging.{with_number, ranges-yes, ranges-written, ranges-refused}
use Rattle.ranges_where.proofs.ranges_where.Goals as goal

pub ranges_where-n-requires : goal.ranges_where-n-requires
ranges_where-n-requires c =
    let a = c.args in
    ranges-yes a.ends.now a.values.now a.code a.out_starts.now a.out_ends.now
    (sym c.in_ok-ranges_where_asks.ensures)

pub returns : goal.returns
unfolding ranges_where
returns c =
    let rs = runs_of c.args.ends.now c.args.values.now in
    ranges-written _ (sym c.in_ok-ranges_where_asks.ensures)
    (with_number c.args.code rs (to_z-of_z c.ranges.number) c.ranges_where-n.ensures)

pub returns-in_err-ranges_where_asks : goal.returns-in_err-ranges_where_asks
unfolding ranges_where
returns-in_err-ranges_where_asks c = ranges-refused _ _ _ c.from_residual.ensures.1 c.in_err-ranges_where_asks.ensures
