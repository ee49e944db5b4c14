use mathlib.Core.Path.{◌∙◌, sym}
use Rattle.column.specs.Questions.{paired}
use Rattle.column.proofs.FirstNo.{ends_at, goes_on, alone}
use Rattle.batch.specs.Batch.{keyed}
use Rattle.batch.proofs.two.ask_lengths.Goals as goal

pub returns-in_err-ask_lengths : goal.returns-in_err-ask_lengths
unfolding keyed paired
returns-in_err-ask_lengths c = ends_at _ _ _ c.from_residual.ensures.1 c.in_err-ask_lengths.ensures

pub returns-in_err-ask_lengths-2 : goal.returns-in_err-ask_lengths-2
unfolding keyed paired
returns-in_err-ask_lengths-2 c =
    goes_on _ c.in_ok-ask_lengths.ensures (ends_at _ _ _ c.from_residual-in_err-ask_lengths-2.ensures.1 c.in_err-ask_lengths-2.ensures)

pub returns-in_err-ask_lengths-3 : goal.returns-in_err-ask_lengths-3
unfolding keyed paired
returns-in_err-ask_lengths-3 c =
    goes_on _ c.in_ok-ask_lengths.ensures (goes_on _ c.in_ok-ask_lengths-2.ensures
    (ends_at _ _ _ c.from_residual-in_err-ask_lengths-3.ensures.1 c.in_err-ask_lengths-3.ensures))

pub returns : goal.returns
unfolding keyed paired
returns c =
    goes_on _ c.in_ok-ask_lengths.ensures (goes_on _ c.in_ok-ask_lengths-2.ensures (goes_on _ c.in_ok-ask_lengths-3.ensures
    (c.ask_lengths-4.ensures ∙ sym (alone _))))
