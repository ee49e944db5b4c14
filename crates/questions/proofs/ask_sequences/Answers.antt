use mathlib.Core.Path.{sym, ◌∙◌, ap}
use native.Mathlib.Omega.{arith}
use Rattle.column.specs.Asking.{refused_in_key, shown_asked}
use Rattle.column.specs.Questions.{sequence_at}
use Rattle.column.proofs.Parts.{sequences-start, sequences-next, sequences-refused, sequences-end}
use Rattle.column.proofs.Promised.{passed_on}
use Rattle.questions.proofs.ask_sequences.Goals as goal

pub loop-k-init : goal.loop-k-init
loop-k-init c = sequences-start _ _

pub returns-in_err-in_key : goal.returns-in_err-in_key
returns-in_err-in_key c =
    let k = c.loop-k.k in
    let asked = ap (refused_in_key k) c.ask_ends.ensures ∙ ap (sequence_at k) c.part-own.ensures in
    ap shown_asked (passed_on _ _ c.from_residual.ensures.1)
    ∙ sym (c.loop-k.invariant ∙ sequences-refused _ _ _ (omega arith) (sym (c.in_err-in_key.ensures ∙ asked)))

pub loop-k-preserved : goal.loop-k-preserved
loop-k-preserved c =
    let k = c.loop-k.k in
    let asked = ap (refused_in_key k) c.ask_ends.ensures ∙ ap (sequence_at k) c.part-own.ensures in
    c.loop-k.invariant ∙ sequences-next _ _ _ (omega arith) (sym (c.in_ok-in_key.ensures ∙ asked))

pub returns : goal.returns
returns c = sym (c.loop-k.invariant ∙ sequences-end _ _ _ (omega arith))
