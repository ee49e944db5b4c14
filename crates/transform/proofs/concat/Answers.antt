use mathlib.Core.Path.{sym}
use Rattle.column.proofs.Promised.{runs-written, runs-refused}
use Rattle.transform.specs.Calls.{concat}
use Rattle.transform.proofs.Joining.{concat-yes}
use Rattle.transform.proofs.concat.Goals as goal

pub concat-n-requires : goal.concat-n-requires
concat-n-requires c = concat-yes _ _ _ _ _ (sym c.in_ok-concat_asks.ensures)

pub returns : goal.returns
unfolding concat
returns c = runs-written _ (sym c.in_ok-concat_asks.ensures) c.concat-n.ensures

pub returns-in_err-concat_asks : goal.returns-in_err-concat_asks
unfolding concat
returns-in_err-concat_asks c = runs-refused _ _ _ c.from_residual.ensures.1 c.in_err-concat_asks.ensures
