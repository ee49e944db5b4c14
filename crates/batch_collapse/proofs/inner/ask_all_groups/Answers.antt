use native.Mathlib.Omega.{arith}
use Rattle.batch_collapse.proofs.Groups.{all_start, all-no, all-next, all_end, group_few}
use Rattle.batch_index.proofs.Links.{lent_same}
use borrow.Author.Rules.{rules}
use Rattle.batch_collapse.proofs.inner.ask_all_groups.Goals as goal

pub loop-group-init : goal.loop-group-init
loop-group-init c =
    let e = c.next_group-group.ensures in (
      search rules,
      search rules,
      search rules,
      all_start _ _ _ e.0,
      e.1,
      lent_same
          c.requires.1 (search rules) (search rules) (search rules),
    )

pub returns-in_err-in_key : goal.returns-in_err-in_key
returns-in_err-in_key c =
    all-no _ _ _ c.loop-group.invariant.3 c.loop-group-test.true c.ask_group-filled.ensures _ _ c.from_residual.ensures.1 c.in_err-in_key.ensures

pub overflow_add-n : goal.overflow_add-n
overflow_add-n c =
    omega (
      arith,
      group_few _ c.loop-group.invariant.3.groups
          c.loop-group-test.true,
      c.well_formed,
    )

pub loop-group-preserved : goal.loop-group-preserved
loop-group-preserved c =
    let e = c.next_group-group-in-loop-group.ensures in (
      search rules,
      search rules,
      search rules,
      all-next _ _ _ c.loop-group.invariant.3 c.loop-group-test.true c.ask_group-filled.ensures c.in_ok-in_key.ensures e.0,
      e.1,
      lent_same c.loop-group.invariant.5 (search rules) (search rules) (search rules),
    )

pub returns : goal.returns
returns c = all_end _ _ _ c.loop-group.invariant.3 c.loop-group-test.false
