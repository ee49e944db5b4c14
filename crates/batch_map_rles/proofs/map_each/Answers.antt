use mathlib.Core.Path.{sym}
use Rattle.batch.proofs.Laying.{batch-refused}
use Rattle.batch_map_rles.specs.Workers.{map_each}
use Rattle.batch_map_rles.proofs.Mapping.{each-told, each-written}
use Rattle.batch_map_rles.proofs.map_each.Goals as goal

pub map_rles-runs-requires : goal.map_rles-runs-requires
map_rles-runs-requires c = each-told _ _ _ _ _ _ _ _ _ (sym (rw c.most_runs.ensures at c.in_ok-each_asks.ensures))

pub returns-in_err-each_asks : goal.returns-in_err-each_asks
unfolding map_each
returns-in_err-each_asks c = batch-refused _ _ _ c.from_residual.ensures.1 (rw c.most_runs.ensures at c.in_err-each_asks.ensures)

pub returns : goal.returns
returns c = each-written _ _ _ _ _ _ _ _ _ (sym (rw c.most_runs.ensures at c.in_ok-each_asks.ensures)) c.map_rles-runs.ensures
