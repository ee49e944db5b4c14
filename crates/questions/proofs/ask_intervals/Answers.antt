use Rattle.num.proofs.Bits.{back}
use lib.IntN.{pos}
use Rattle.column.proofs.YesNo.{interval_negative, interval_reversed, interval_yes}
use mathlib.Core.Path.{refl, sym, ◌∙◌}
use lib.ListN.{get_or}
use Rattle.column.specs.Questions.{intervals}
use Rattle.column.proofs.FirstNo.{each_next, each-refused, each-end}
use borrow.Author.Rules.{rules}
use Rattle.questions.proofs.ask_intervals.Goals as goal

pub loop-index-init : goal.loop-index-init
unfolding intervals
loop-index-init c = (search rules, refl)

pub returns-then-start-lt0 : goal.returns-then-start-lt0
returns-then-start-lt0 c =
    let s = back (get_or c.args.starts.now c.loop-index.index (pos 0)) c.start-1.given in
    let e = back c.entry_or-end.result c.entry_or-end.type_inv in
    rw (s, e) at c.no.ensures
    ∙ sym (c.loop-index.invariant.1 ∙ each-refused _ _ _ (pos 0) c.loop-index-test.true
    (interval_negative _ _ _ c.entry_or-end.ensures (rw s at c.if-start-lt0.true)))

pub returns-then-end-start : goal.returns-then-end-start
returns-then-end-start c =
    let s = back (get_or c.args.starts.now c.loop-index.index (pos 0)) c.start-1.given in
    let e = back c.entry_or-end.result c.entry_or-end.type_inv in
    rw (s, e) at c.no-then-end-start.ensures
    ∙ sym (c.loop-index.invariant.1 ∙ each-refused _ _ _ (pos 0) c.loop-index-test.true
    (interval_reversed _ _ _ c.entry_or-end.ensures (rw s at c.if-start-lt0.false)
    (rw (s, e) at c.if-end-start.true)))

pub loop-index-preserved : goal.loop-index-preserved
loop-index-preserved c =
    let s = back (get_or c.args.starts.now c.loop-index.index (pos 0)) c.start-1.given in
    let e = back c.entry_or-end.result c.entry_or-end.type_inv in (
      search rules,
      c.loop-index.invariant.1 ∙ each_next _ _ _ (pos 0) c.loop-index-test.true
          (interval_yes _ _ _ c.entry_or-end.ensures (rw s at c.if-start-lt0.false) (rw (s, e) at c.if-end-start.false)),
    )

pub returns : goal.returns
returns c = sym (c.loop-index.invariant.1 ∙ each-end _ _ _ (pos 0) c.loop-index-test.false)
