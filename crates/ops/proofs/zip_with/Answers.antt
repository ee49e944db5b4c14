use mathlib.Core.Path.{◌∙◌, sym}
use Rattle.num.proofs.Bits.{back}
use Rattle.column.proofs.Promised.{runs-written, runs-refused}
use Rattle.plan.proofs.Fills.{unwrapped}
use Rattle.ops.specs.Calls.{zip_with}
use Rattle.ops.proofs.Asks.{zip-yes, combined-filled}
use Rattle.ops.proofs.zip_with.Goals as goal

pub zip_with-n-requires : goal.zip_with-n-requires
zip_with-n-requires c = zip-yes _ _ _ _ _ _ _ _ _ (sym c.in_ok-zip_asks.ensures)

pub returns : goal.returns
unfolding zip_with
returns c =
    let asked = sym c.in_ok-zip_asks.ensures in
    let value-a = back _ c.unwrap_or.type_inv ∙ c.unwrap_or.ensures ∙ unwrapped c.args.fill_a in
    let value-b = back _ c.unwrap_or-2.type_inv ∙ c.unwrap_or-2.ensures ∙ unwrapped c.args.fill_b in
    runs-written _ asked (combined-filled _ _ _ _ _ _ _ value-a value-b c.zip_with-n.ensures)

pub returns-in_err-zip_asks : goal.returns-in_err-zip_asks
unfolding zip_with
returns-in_err-zip_asks c = runs-refused _ _ _ c.from_residual.ensures.1 c.in_err-zip_asks.ensures
