use mathlib.Core.Path.{sym}
use Rattle.column.proofs.Promised.{runs-written, runs-refused}
use mir.Facts.{to_z-of_z}
use Rattle.rle.specs.Calls.{push_run}
use Rattle.rle.proofs.Yes.{push_run-yes}
use Rattle.rle.proofs.Rle.push_run.Goals as goal

pub push_run-n-requires : goal.push_run-n-requires
push_run-n-requires c =
    let a = c.args in
    push_run-yes a.ends.now a.values.now _ _ (sym c.in_ok-push_run_asks.ensures)

pub returns : goal.returns
unfolding push_run
returns c =
    let f = to_z-of_z c.ranges.run in
    runs-written _ (sym (rw f at c.in_ok-push_run_asks.ensures)) (rw (f, to_z-of_z c.ranges.value) at c.push_run-n.ensures)

pub returns-in_err-push_run_asks : goal.returns-in_err-push_run_asks
unfolding push_run
returns-in_err-push_run_asks c =
    runs-refused _ _ _ c.from_residual.ensures.1 (rw (to_z-of_z c.ranges.run) at c.in_err-push_run_asks.ensures)
