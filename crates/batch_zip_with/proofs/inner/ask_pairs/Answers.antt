use mathlib.Core.Path.{refl, ap, ◌∙◌}
use native.Mathlib.Omega.{arith}
use Rattle.num.proofs.Bits.{back}
use Rattle.batch_zip_with.proofs.Pairs.{stands-few}
use Rattle.column.specs.Asking.{shown_asked}
use Rattle.batch_zip_with.proofs.Asking.{both-asked, asking_start, asking-next, asking_end}
use borrow.Author.Rules.{rules}
use Rattle.batch_zip_with.proofs.inner.ask_pairs.Goals as goal

pub loop-next-init : goal.loop-next-init
loop-next-init c = (asking_start _ _ _ _ _ c.requires.0 c.requires.1 c.next_pair-next.ensures.0, c.next_pair-next.ensures.1, search rules)

pub overflow_add-n : goal.overflow_add-n
overflow_add-n c =
    omega (arith, c.well_formed, stands-few _ _ _ c.requires.0 c.requires.1 c.loop-next.invariant.0.stands c.in-Some.is)

pub next_pair-next-requires-in-Some : goal.next_pair-next-requires-in-Some
next_pair-next-requires-in-Some c =
    let there = rw c.in-Some.is at c.loop-next.invariant.0.stands.here in
    (c.requires.2, omega (arith, there.0), rw c.in-Some.is at c.loop-next.invariant.1)

pub loop-next-preserved : goal.loop-next-preserved
loop-next-preserved c = (
  asking-next _ _ _ _ _ c.requires.0 c.requires.1 c.loop-next.invariant.0 c.in-Some.is c.part_at-left.ensures
      c.part_at-right.ensures c.ask_fills-filled.ensures (back _ c.length.type_inv ∙ c.length.ensures)
      (back _ c.length-in-Some.type_inv ∙ c.length-in-Some.ensures) c.in_key.ensures
      (ap shown_asked c.and-asked.ensures ∙ both-asked _ _) c.saturating_add-runs.ensures refl
      c.next_pair-next-in-Some.ensures.0,
  c.next_pair-next-in-Some.ensures.1,
  search rules,
)

pub returns : goal.returns
returns c = asking_end _ _ _ _ _ c.requires.0 c.requires.1 c.loop-next.invariant.0 c.in_default.is
