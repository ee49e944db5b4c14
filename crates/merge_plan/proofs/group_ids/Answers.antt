use mathlib.Core.Path.{sym}
use Rattle.column.proofs.Promised.{entries-written, entries-refused}
use Rattle.merge_plan.specs.Calls.{group_ids}
use Rattle.merge_plan.proofs.Asks.{group_ids-yes}
use Rattle.merge_plan.proofs.group_ids.Goals as goal

pub group_ids-n-requires : goal.group_ids-n-requires
group_ids-n-requires c = group_ids-yes _ _ (sym c.in_ok-group_ids_asks.ensures)

pub returns : goal.returns
unfolding group_ids
returns c =
    let w = c.group_ids-n.ensures in
    entries-written _ (sym c.in_ok-group_ids_asks.ensures) w.0 w.1

pub returns-in_err-group_ids_asks : goal.returns-in_err-group_ids_asks
unfolding group_ids
returns-in_err-group_ids_asks c = entries-refused _ _ _ c.from_residual.ensures.1 c.in_err-group_ids_asks.ensures
