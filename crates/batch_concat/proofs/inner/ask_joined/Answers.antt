use mathlib.Core.Path.{refl, ◌∙◌}
use native.Mathlib.Omega.{arith}
use Rattle.num.proofs.Bits.{back}
use Rattle.batch_concat.proofs.Asking.{ask-start, ask-b, ask-next, ask-refused, ask-end}
use borrow.Author.Rules.{rules}
use Rattle.batch_concat.proofs.inner.ask_joined.Goals as goal

pub loop-next-init : goal.loop-next-init
loop-next-init c = let k = c.next_key-next.ensures in (ask-start _ _ _ _ _ _ _ _ k.0, k.1, refl)

pub returns-in_err-ask_sum : goal.returns-in_err-ask_sum
returns-in_err-ask_sum c =
    ask-refused _ _ _ _ _ _ _ _ c.loop-next.invariant.0 c.in-Some.is c.requires.0 c.requires.1 c.part_at-left.ensures
    c.part_at-right.ensures (back _ c.length.type_inv ∙ c.length.ensures)
    (back _ c.length-in-Some.type_inv ∙ c.length-in-Some.ensures) refl _ _ c.from_residual.ensures.1 c.in_err-ask_sum.ensures

pub overflow_add-b : goal.overflow_add-b
overflow_add-b c = omega (arith, ask-b _ _ _ _ _ _ _ _ c.loop-next.invariant.0 c.in-Some.is, c.well_formed)

pub loop-next-preserved : goal.loop-next-preserved
loop-next-preserved c =
    let k = c.next_key-next-in-Some.ensures in (
      ask-next _ _ _ _ _ _ _ _ c.loop-next.invariant.0 c.in-Some.is c.requires.0 c.requires.1 c.part_at-left.ensures c.part_at-right.ensures
          (back _ c.length.type_inv ∙ c.length.ensures) (back _ c.length-in-Some.type_inv ∙ c.length-in-Some.ensures) refl
          c.in_ok-ask_sum.ensures k.0,
      k.1,
      search rules,
    )

pub returns : goal.returns
returns c = ask-end _ _ _ _ _ _ _ _ c.loop-next.invariant.0 c.in_default.is
