use Rattle.column.specs.Flat.{flat, columns}
use mathlib.Core.Path.{◌∙◌, sym}
use Rattle.num.proofs.Bits.{back}
use Rattle.zip_many.proofs.Flats.{combined-filled}
use Rattle.column.proofs.Promised.{runs-written, runs-refused}
use Rattle.plan.proofs.Fills.{unwrapped}
use Rattle.zip_many.specs.Calls.{zip_many}
use Rattle.zip_many.proofs.Asks.{zip-many-yes}
use Rattle.zip_many.proofs.zip_many.Goals as goal

pub zip_many-n-requires : goal.zip_many-n-requires
zip_many-n-requires c = zip-many-yes _ _ _ _ _ _ _ (sym c.in_ok-zip_many_asks.ensures)

pub returns : goal.returns
unfolding zip_many
returns c =
    let a = c.args in
    let cs = columns (flat a.offsets.now a.ends.now a.values.now) in
    let asked = sym c.in_ok-zip_many_asks.ensures in
    runs-written _ asked (combined-filled _ a.fill cs (back _ c.unwrap_or.type_inv ∙ c.unwrap_or.ensures ∙ unwrapped a.fill) c.zip_many-n.ensures)

pub returns-in_err-zip_many_asks : goal.returns-in_err-zip_many_asks
unfolding zip_many
returns-in_err-zip_many_asks c = runs-refused _ _ _ c.from_residual.ensures.1 c.in_err-zip_many_asks.ensures
