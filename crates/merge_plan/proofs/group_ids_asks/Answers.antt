use mathlib.Core.Path.{sym, ◌∙◌}
use Rattle.column.proofs.FirstNo.{ends_at, goes_on, alone}
use Rattle.merge_plan.specs.Calls.{group_ids_asked}
use Rattle.merge_plan.proofs.Asks.{group_ids-room}
use Rattle.merge_plan.proofs.group_ids_asks.Goals as goal

pub returns-in_err-ask_offsets_rise : goal.returns-in_err-ask_offsets_rise
unfolding group_ids_asked
returns-in_err-ask_offsets_rise c = ends_at _ _ _ c.from_residual.ensures.1 c.in_err-ask_offsets_rise.ensures

pub returns : goal.returns
unfolding group_ids_asked
returns c = goes_on _ c.in_ok-ask_offsets_rise.ensures (group_ids-room c.args.offsets.now _ c.ask_room.ensures c.last_offset-needed.ensures ∙ sym (alone _))
