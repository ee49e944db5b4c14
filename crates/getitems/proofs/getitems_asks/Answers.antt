use mathlib.Core.Path.{◌∙◌, sym}
use Rattle.column.specs.Questions.{paired}
use Rattle.column.proofs.FirstNo.{alone, ends_at, goes_on}
use Rattle.getitems.specs.Calls.{getitems_asked}
use Rattle.getitems.proofs.Asks.{getitems-room}
use Rattle.getitems.proofs.getitems_asks.Goals as goal

pub returns-in_err-ask_lengths : goal.returns-in_err-ask_lengths
unfolding getitems_asked paired
returns-in_err-ask_lengths c le lv = ends_at _ _ _ c.from_residual.ensures.1 c.in_err-ask_lengths.ensures

pub returns-in_err-ask_lengths-2 : goal.returns-in_err-ask_lengths-2
unfolding getitems_asked paired
returns-in_err-ask_lengths-2 c le lv =
    goes_on _ c.in_ok-ask_lengths.ensures
    (ends_at _ _ _ c.from_residual-in_err-ask_lengths-2.ensures.1 c.in_err-ask_lengths-2.ensures)

pub returns-in_err-ask_ends : goal.returns-in_err-ask_ends
unfolding getitems_asked paired
returns-in_err-ask_ends c le lv =
    goes_on _ c.in_ok-ask_lengths.ensures
    (goes_on _ c.in_ok-ask_lengths-2.ensures
    (ends_at _ _ _ c.from_residual-in_err-ask_ends.ensures.1 c.in_err-ask_ends.ensures))

pub returns-in_err-ask_intervals : goal.returns-in_err-ask_intervals
unfolding getitems_asked paired
returns-in_err-ask_intervals c le lv =
    goes_on _ c.in_ok-ask_lengths.ensures
    (goes_on _ c.in_ok-ask_lengths-2.ensures
    (goes_on _ c.in_ok-ask_ends.ensures
    (ends_at _ _ _ c.from_residual-in_err-ask_intervals.ensures.1 c.in_err-ask_intervals.ensures)))

pub returns : goal.returns
unfolding getitems_asked paired
returns c le lv =
    let a = c.args in
    let room =
    getitems-room a.ends.now a.values.now a.starts.now a.stops.now _ _ _ c.count_runs-runs.ensures le lv
    c.in_ok-ask_lengths.ensures c.in_ok-ask_lengths-2.ensures c.in_ok-ask_ends.ensures in
    goes_on _ c.in_ok-ask_lengths.ensures
    (goes_on _ c.in_ok-ask_lengths-2.ensures
    (goes_on _ c.in_ok-ask_ends.ensures (goes_on _ c.in_ok-ask_intervals.ensures (c.ask_flat_room.ensures ∙ room ∙ sym (alone _)))))
