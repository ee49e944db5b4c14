use mathlib.Core.Path.{◌∙◌, sym}
use Rattle.column.proofs.FirstNo.{ends_at, goes_on, alone}
use Rattle.batch.specs.Calls.{from_parts}
use Rattle.batch.proofs.Asks.{checked}
use Rattle.batch.proofs.from_parts.Goals as goal

pub returns-in_err-ask_batch : goal.returns-in_err-ask_batch
unfolding from_parts
returns-in_err-ask_batch c = checked _ (ends_at _ _ _ c.from_residual.ensures.1 c.in_err-ask_batch.ensures)

pub returns : goal.returns
unfolding from_parts
returns c = checked _ (goes_on _ c.in_ok-ask_batch.ensures (c.ask_keys.ensures ∙ sym (alone _)))
