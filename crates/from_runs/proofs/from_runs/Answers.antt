use mathlib.Core.Path.{sym}
use Rattle.column.proofs.Promised.{runs-written, runs-refused}
use Rattle.from_runs.specs.Calls.{from_runs}
use Rattle.from_runs.proofs.Yes.{from-runs-yes}
use Rattle.from_runs.proofs.from_runs.Goals as goal

pub from_runs-n-requires : goal.from_runs-n-requires
from_runs-n-requires c =
    let args = c.args in
    from-runs-yes args.out_ends.now args.out_values.now _ _ (sym c.in_ok-from_runs_asks.ensures)

pub returns : goal.returns
unfolding from_runs
returns c = runs-written _ (sym c.in_ok-from_runs_asks.ensures) c.from_runs-n.ensures

pub returns-in_err-from_runs_asks : goal.returns-in_err-from_runs_asks
unfolding from_runs
returns-in_err-from_runs_asks c = runs-refused _ _ _ c.from_residual.ensures.1 c.in_err-from_runs_asks.ensures
