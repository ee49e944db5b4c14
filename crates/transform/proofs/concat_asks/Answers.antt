use mathlib.Core.Path.{ap, sym, ◌∙◌}
use Rattle.column.specs.Flat.{flat, flat_asked}
use Rattle.column.specs.Questions.{fits}
use Rattle.column.proofs.FirstNo.{ends_at, ends_within, goes_on, goes_on_after, alone}
use Rattle.transform.specs.Calls.{concat_asked}
use Rattle.transform.proofs.Joining.{fits-total}
use Rattle.transform.proofs.concat_asks.Goals as goal

pub returns-in_err-ask_flat : goal.returns-in_err-ask_flat
unfolding concat_asked
returns-in_err-ask_flat c =
    let a = c.args in
    ends_within _ _ (flat_asked (flat a.offsets.now a.ends.now a.values.now)) _ c.from_residual.ensures.1 c.in_err-ask_flat.ensures

pub returns-in_err-ask_fits : goal.returns-in_err-ask_fits
unfolding concat_asked
returns-in_err-ask_fits c =
    let a = c.args in
    let asked = c.in_ok-ask_flat.ensures in
    let fitting = c.in_err-ask_fits.ensures ∙ ap fits c.total_length.ensures ∙ fits-total a.offsets.now a.ends.now a.values.now (sym asked) in
    goes_on_after (flat_asked (flat a.offsets.now a.ends.now a.values.now)) _ asked
    (ends_at _ _ _ c.from_residual-in_err-ask_fits.ensures.1 fitting)

pub returns : goal.returns
unfolding concat_asked
returns c =
    let a = c.args in
    let asked = c.in_ok-ask_flat.ensures in
    let fitting = c.in_ok-ask_fits.ensures ∙ ap fits c.total_length.ensures ∙ fits-total a.offsets.now a.ends.now a.values.now (sym asked) in
    goes_on_after (flat_asked (flat a.offsets.now a.ends.now a.values.now)) _ asked (goes_on _ fitting (c.ask_both.ensures ∙ sym (alone _)))
