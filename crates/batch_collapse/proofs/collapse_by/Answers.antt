use mathlib.Core.Path.{◌∙◌, sym}
use Rattle.num.proofs.Bits.{back}
use Rattle.plan.proofs.Fills.{unwrapped}
use Rattle.batch_index.proofs.Links.{lent_same}
use Rattle.batch_collapse.proofs.Asks.{grouped, groups-refused, all_asked, all_room}
use Rattle.batch_collapse.proofs.Collapsing.{collapse-written, collapse-refused}
use borrow.Author.Rules.{rules}
use Rattle.batch_collapse.proofs.collapse_by.Goals as goal

pub ask_groups-requires : goal.ask_groups-requires
ask_groups-requires c =
    let pre = c.requires in
    (grouped _ _ _ _ _ _ pre.0 pre.1, pre.2)

pub returns-in_err-ask_groups : goal.returns-in_err-ask_groups
returns-in_err-ask_groups c =
    collapse-refused _ _ _ _ _ _ _ _ _ _ _ _ _ _ _ c.from_residual.ensures.1
    (groups-refused _ _ _ _ _ _ _ _ _ _ _ _ _ c.requires.0 c.in_err-ask_groups.ensures)

pub returns-in_err-ask_room : goal.returns-in_err-ask_room
returns-in_err-ask_room c =
    collapse-refused _ _ _ _ _ _ _ _ _ _ _ _ _ _ _ c.from_residual-in_err-ask_room.ensures.1
    (all_asked _ _ _ _ _ _ _ _ _ _ _ _ _ c.requires.0 c.in_ok-ask_groups.ensures c.in_err-ask_room.ensures)

pub collapse-counts-requires : goal.collapse-counts-requires
collapse-counts-requires c =
    let pre = c.requires in (
      grouped _ _ _ _ _ _ pre.0 pre.1,
      all_room _ _ _ _ _ _ _ _ _ _ c.in_ok-ask_room.ensures,
      lent_same pre.2 (search rules) (search rules) (search rules),
    )

pub returns : goal.returns
returns c =
    let a = c.args in
    collapse-written _ _ _ _ _ _ _ _ _ _ _ _ _
    (sym (all_asked _ _ _ _ _ _ _ _ _ _ _ _ _ c.requires.0 c.in_ok-ask_groups.ensures c.in_ok-ask_room.ensures))
    (back _ c.unwrap_or.type_inv ∙ c.unwrap_or.ensures ∙ unwrapped a.fill) c.collapse-counts.ensures
