use mathlib.Core.Path.{sym, ap, ◌∙◌}
use lib.IntN.{pos}
use lib.ListN.{get_or}
use mir.Syntax.{w64}
use mir.Val.{SFits}
use Rattle.num.proofs.Bits.{back}
use Rattle.column.specs.Asking.{shown_asked}
use Rattle.column.proofs.Naturals.{to_nat_cast, to_nat_abs}
use Rattle.column.proofs.Promised.{passed_on}
use Rattle.column.proofs.Told.{negative_told, fits_told}
use Rattle.column.proofs.YesNo.{runs-negative, runs-overflow, runs-next, runs-end}
use Rattle.questions.proofs.ask_runs.Goals as goal

pub returns-in_err-ask_run : goal.returns-in_err-ask_run
returns-in_err-ask_run c =
    let z = get_or c.args.runs.now c.loop-index.index (pos 0) in
    ap shown_asked (passed_on _ _ c.from_residual.ensures.1)
    ∙ sym (c.loop-index.invariant.1 ∙ runs-negative _ _ _ c.loop-index-test.true (rw (back z c.run-1.given) at c.in_err-ask_run.ensures))

pub overflow_cast-total : goal.overflow_cast-total
overflow_cast-total c =
    let z = get_or c.args.runs.now c.loop-index.index (pos 0) in
    to_nat_cast z (record { sfits = c.run-1.given }) (negative_told _ z (sym (rw (back z c.run-1.given) at c.in_ok-ask_run.ensures)))

pub returns-in_err-ask_fits : goal.returns-in_err-ask_fits
returns-in_err-ask_fits c =
    let z = get_or c.args.runs.now c.loop-index.index (pos 0) in
    let f : SFits w64 z = record { sfits = c.run-1.given } in
    let natural = rw (back z f.sfits) at c.in_ok-ask_run.ensures in
    ap shown_asked (passed_on _ _ c.from_residual-in_err-ask_fits.ensures.1)
    ∙ sym (c.loop-index.invariant.1 ∙ runs-overflow _ _ _ c.loop-index-test.true natural
    (rw (to_nat_abs z f (negative_told _ z (sym natural))) at c.in_err-ask_fits.ensures))

pub loop-index-preserved : goal.loop-index-preserved
loop-index-preserved c =
    let z = get_or c.args.runs.now c.loop-index.index (pos 0) in
    let f : SFits w64 z = record { sfits = c.run-1.given } in
    let natural = rw (back z f.sfits) at c.in_ok-ask_run.ensures in
    let cast = to_nat_abs z f (negative_told _ z (sym natural)) in
    let fitting = rw cast at c.in_ok-ask_fits.ensures in
    rw cast (fits_told _ (sym fitting), c.loop-index.invariant.1 ∙ runs-next _ _ _ c.loop-index-test.true natural fitting)

pub returns : goal.returns
returns c = sym (c.loop-index.invariant.1 ∙ runs-end _ _ _ c.loop-index-test.false)
