use mathlib.Core.Path.{◌∙◌}
use Rattle.num.proofs.Bits.{back}
use Rattle.batch.proofs.Entries.{column-valid}
use Rattle.batch_collapse.proofs.Columns.{new_many, part-long}
use Rattle.batch_collapse.proofs.Filling.{asking_start, asking-no, asking-next, asking_end}
use Rattle.batch_collapse.proofs.inner.ask_group.Goals as goal

pub loop-member-init : goal.loop-member-init
loop-member-init c = (
  asking_start _ _ _ (new_many _ _ _ _ _ c.requires.0) _ (column-valid _ _ _ _ c.requires.0.valid _) c.requires.1 c.requires.2
      c.next_member-member.ensures.0,
  c.next_member-member.ensures.1,
)

pub returns-in_err-ask_fills : goal.returns-in_err-ask_fills
returns-in_err-ask_fills c =
    asking-no _ _ _ (new_many _ _ _ _ _ c.requires.0) _ _ _ c.loop-member.invariant.0
    c.loop-member-test.true
    (part-long _ _ _ _ _ c.requires.0 _
    c.part_at.ensures (back _
    c.length-length.type_inv ∙ c.length-length.ensures))
    (part-long _ _ _ _ _ c.requires.0 _ c.part_at-in-loop-member.ensures (back _
    c.length-other.type_inv ∙ c.length-other.ensures))
    _ _ c.from_residual.ensures.1 c.in_err-ask_fills.ensures

pub loop-member-preserved : goal.loop-member-preserved
loop-member-preserved c = (
  asking-next _ _ _ (new_many _ _ _ _ _ c.requires.0) _ _ _ c.loop-member.invariant.0
      c.loop-member-test.true
      (part-long _ _ _ _ _ c.requires.0 _
      c.part_at.ensures (back _
      c.length-length.type_inv ∙ c.length-length.ensures))
      (part-long _ _ _ _ _ c.requires.0 _ c.part_at-in-loop-member.ensures (back _
      c.length-other.type_inv ∙ c.length-other.ensures))
      c.in_ok-ask_fills.ensures c.next_member-member-in-loop-member.ensures.0,
  c.next_member-member-in-loop-member.ensures.1,
)

pub returns : goal.returns
returns c =
    asking_end _ _ _ (new_many _ _ _ _ _
    c.requires.0) _ _ _
    c.loop-member.invariant.0 c.loop-member-test.false
