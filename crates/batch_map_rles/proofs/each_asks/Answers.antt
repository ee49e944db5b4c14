use mathlib.Core.Path.{◌∙◌, sym}
use Rattle.column.proofs.FirstNo.{ends_at, goes_on, alone}
use Rattle.batch_map_rles.specs.Calls.{each_asked}
use Rattle.batch_map_rles.proofs.each_asks.Goals as goal

pub returns-in_err-ask_batch : goal.returns-in_err-ask_batch
unfolding each_asked
returns-in_err-ask_batch c = ends_at _ _ _ c.from_residual.ensures.1 c.in_err-ask_batch.ensures

pub returns : goal.returns
unfolding each_asked
returns c = goes_on _ c.in_ok-ask_batch.ensures (c.ask_room.ensures ∙ sym (alone _))
