use mathlib.Core.Path.{sym}
use Rattle.column.proofs.Promised.{value-answered, value-refused}
use Rattle.equals.specs.Calls.{equals}
use Rattle.equals.proofs.Asks.{equals-yes}
use Rattle.equals.proofs.equals.Goals as goal

pub equals-requires : goal.equals-requires
equals-requires c = equals-yes _ _ _ _ (sym c.in_ok-equals_asks.ensures)

pub returns : goal.returns
unfolding equals
returns c = value-answered (sym c.in_ok-equals_asks.ensures) c.equals.ensures

pub returns-in_err-equals_asks : goal.returns-in_err-equals_asks
unfolding equals
returns-in_err-equals_asks c = value-refused _ _ _ c.from_residual.ensures.1 c.in_err-equals_asks.ensures
