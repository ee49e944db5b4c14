use mathlib.Core.Path.{refl, sym, ◌∙◌}
use Rattle.column.specs.Questions.{paired}
use Rattle.column.proofs.FirstNo.{alone, goes_on}
use Rattle.column.proofs.Promised.{value-answered, value-refused}
use Rattle.reduce.specs.Calls.{sum}
use Rattle.reduce.proofs.Answers.{first_refused, asked-whole, held-whole, summed-whole}
use borrow.Author.Rules.{rules}
use Rattle.reduce.proofs.sum.Goals as goal

pub returns-in_err-ask_lengths : goal.returns-in_err-ask_lengths
unfolding sum paired
returns-in_err-ask_lengths c = value-refused _ _ _ c.from_residual.ensures.1 (first_refused _ c.in_err-ask_lengths.ensures)

pub sum_window-sum-requires : goal.sum_window-sum-requires
sum_window-sum-requires c = held-whole _ c.whole.ensures _ c.in_ok-ask_lengths.ensures (search rules)

pub returns-in_err-ask_rising : goal.returns-in_err-ask_rising
unfolding sum paired
returns-in_err-ask_rising c =
    let no = c.in_err-ask_rising.ensures ∙ asked-whole _ c.whole.ensures _ c.sum_window-sum.ensures.asked in
    value-refused _ _ _ c.from_residual-in_err-ask_rising.ensures.1 (goes_on _ c.in_ok-ask_lengths.ensures (no ∙ sym (alone _)))

pub returns : goal.returns
unfolding sum paired
returns c =
    let yes = c.in_ok-ask_rising.ensures ∙ asked-whole _ c.whole.ensures _ c.sum_window-sum.ensures.asked in
    let total = summed-whole _ c.whole.ensures _ c.in_ok-ask_lengths.ensures (search rules) c.sum_window-sum.ensures (sym yes) in
    value-answered (sym (goes_on _ c.in_ok-ask_lengths.ensures (goes_on _ yes refl))) (search (rules, total))
