use mathlib.Core.Path.{refl, sym, ◌∙◌}
use mir.Facts.{to_z-of_z}
use Rattle.column.specs.Questions.{paired}
use Rattle.column.proofs.FirstNo.{alone, goes_on}
use Rattle.reduce.specs.Calls.{reduce}
use Rattle.reduce.proofs.Answers.{first_refused, reduction-answered, reduction-refused, asked-whole, held-whole, reduced_whole, finite-whole}
use borrow.Author.Rules.{rules}
use Rattle.reduce.proofs.reduce.Goals as goal

pub returns-in_err-ask_code : goal.returns-in_err-ask_code
unfolding reduce
returns-in_err-ask_code c = reduction-refused _ _ _ c.from_residual.ensures.1 (first_refused _ c.in_err-ask_code.ensures)

pub returns-in_err-ask_lengths : goal.returns-in_err-ask_lengths
unfolding reduce paired
returns-in_err-ask_lengths c =
    reduction-refused _ _ _ c.from_residual-in_err-ask_lengths.ensures.1
    (goes_on _ c.in_ok-ask_code.ensures (first_refused _ c.in_err-ask_lengths.ensures))

pub reduce_window-window-requires : goal.reduce_window-window-requires
reduce_window-window-requires c = held-whole _ c.whole.ensures _ c.in_ok-ask_lengths.ensures (search rules)

pub returns-in_err-ask_rising : goal.returns-in_err-ask_rising
unfolding reduce paired
returns-in_err-ask_rising c =
    let no = c.in_err-ask_rising.ensures ∙ asked-whole _ c.whole.ensures _ c.reduce_window-window.ensures.asked in
    reduction-refused _ _ _ c.from_residual-in_err-ask_rising.ensures.1
    (goes_on _ c.in_ok-ask_code.ensures (goes_on _ c.in_ok-ask_lengths.ensures (no ∙ sym (alone _))))

pub returns : goal.returns
unfolding reduce paired
returns c =
    let yes = c.in_ok-ask_rising.ensures ∙ asked-whole _ c.whole.ensures _ c.reduce_window-window.ensures.asked in
    let reduction = reduced_whole _ c.whole.ensures _ c.in_ok-ask_lengths.ensures c.reduce_window-window.ensures (sym yes) in
    let finite = finite-whole _ c.whole.ensures _ c.in_ok-ask_lengths.ensures c.reduce_window-window.ensures (sym yes) in
    reduction-answered (sym (goes_on _ c.in_ok-ask_code.ensures (goes_on _ c.in_ok-ask_lengths.ensures (goes_on _ yes refl))))
    (rw (to_z-of_z c.ranges.ddof) at reduction) finite
