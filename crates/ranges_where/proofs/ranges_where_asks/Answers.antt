use mathlib.Core.Path.{sym, ◌∙◌}
use Rattle.column.proofs.FirstNo.{ends_at, goes_on, alone}
use Rattle.ranges_where.specs.Calls.{ranges_where_asked}
use Rattle.ranges_where.proofs.ranges_where_asks.Goals as goal

pub returns-in_err-ask_code : goal.returns-in_err-ask_code
unfolding ranges_where_asked
returns-in_err-ask_code c = ends_at _ _ _ c.from_residual.ensures.1 c.in_err-ask_code.ensures

pub returns : goal.returns
unfolding ranges_where_asked
returns c = goes_on _ c.in_ok-ask_code.ensures (c.ask_sequence_into.ensures ∙ sym (alone _))
