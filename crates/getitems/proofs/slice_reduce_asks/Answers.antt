use mathlib.Core.Path.{◌∙◌, sym}
use Rattle.column.specs.Questions.{paired}
use Rattle.column.proofs.FirstNo.{alone, ends_at, goes_on}
use Rattle.getitems.specs.Calls.{slice_reduce_asked}
use Rattle.getitems.proofs.slice_reduce_asks.Goals as goal

pub returns-in_err-ask_code : goal.returns-in_err-ask_code
unfolding slice_reduce_asked paired
returns-in_err-ask_code c = ends_at _ _ _ c.from_residual.ensures.1 c.in_err-ask_code.ensures

pub returns-in_err-ask_lengths : goal.returns-in_err-ask_lengths
unfolding slice_reduce_asked paired
returns-in_err-ask_lengths c =
    goes_on _ c.in_ok-ask_code.ensures
    (ends_at _ _ _ c.from_residual-in_err-ask_lengths.ensures.1 c.in_err-ask_lengths.ensures)

pub returns-in_err-ask_lengths-2 : goal.returns-in_err-ask_lengths-2
unfolding slice_reduce_asked paired
returns-in_err-ask_lengths-2 c =
    goes_on _ c.in_ok-ask_code.ensures
    (goes_on _ c.in_ok-ask_lengths.ensures
    (ends_at _ _ _ c.from_residual-in_err-ask_lengths-2.ensures.1 c.in_err-ask_lengths-2.ensures))

pub returns-in_err-ask_ends : goal.returns-in_err-ask_ends
unfolding slice_reduce_asked paired
returns-in_err-ask_ends c =
    goes_on _ c.in_ok-ask_code.ensures
    (goes_on _ c.in_ok-ask_lengths.ensures
    (goes_on _ c.in_ok-ask_lengths-2.ensures
    (ends_at _ _ _ c.from_residual-in_err-ask_ends.ensures.1 c.in_err-ask_ends.ensures)))

pub returns-in_err-ask_intervals : goal.returns-in_err-ask_intervals
unfolding slice_reduce_asked paired
returns-in_err-ask_intervals c =
    goes_on _ c.in_ok-ask_code.ensures
    (goes_on _ c.in_ok-ask_lengths.ensures
    (goes_on _ c.in_ok-ask_lengths-2.ensures
    (goes_on _ c.in_ok-ask_ends.ensures
    (ends_at _ _ _ c.from_residual-in_err-ask_intervals.ensures.1 c.in_err-ask_intervals.ensures))))

pub returns : goal.returns
unfolding slice_reduce_asked paired
returns c =
    goes_on _ c.in_ok-ask_code.ensures
    (goes_on _ c.in_ok-ask_lengths.ensures
    (goes_on _ c.in_ok-ask_lengths-2.ensures
    (goes_on _ c.in_ok-ask_ends.ensures
    (goes_on _ c.in_ok-ask_intervals.ensures
    (c.ask_both.ensures ∙ sym (alone _))))))
