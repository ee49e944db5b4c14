use Rattle.column.proofs.Promised.{value-answered, value-refused}
use mathlib.Core.Path.{refl, sym}
use Rattle.from_runs.specs.Calls.{from_ends}
use Rattle.from_runs.proofs.from_ends.Goals as goal

pub returns : goal.returns
unfolding from_ends
returns c = value-answered (sym c.in_ok-ask_sequence.ensures) refl

pub returns-in_err-ask_sequence : goal.returns-in_err-ask_sequence
unfolding from_ends
returns-in_err-ask_sequence c = value-refused tt _ _ c.from_residual.ensures.1 c.in_err-ask_sequence.ensures
