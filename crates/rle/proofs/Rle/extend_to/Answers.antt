use mathlib.Core.Path.{sym}
use Rattle.column.proofs.Promised.{runs-written, runs-refused}
use mir.Facts.{to_z-of_z}
use Rattle.rle.specs.Calls.{extend_to}
use Rattle.rle.proofs.Yes.{extend_to-yes}
use Rattle.rle.proofs.Rle.extend_to.Goals as goal

pub extend_to-n-requires : goal.extend_to-n-requires
extend_to-n-requires c =
    let a = c.args in
    extend_to-yes a.ends.now a.values.now _ _ (sym c.in_ok-extend_to_asks.ensures)

pub returns : goal.returns
unfolding extend_to
returns c =
    let f = to_z-of_z c.ranges.length in
    runs-written _ (sym (rw f at c.in_ok-extend_to_asks.ensures)) (rw (f, to_z-of_z c.ranges.value) at c.extend_to-n.ensures)

pub returns-in_err-extend_to_asks : goal.returns-in_err-extend_to_asks
unfolding extend_to
returns-in_err-extend_to_asks c =
    runs-refused _ _ _ c.from_residual.ensures.1 (rw (to_z-of_z c.ranges.length) at c.in_err-extend_to_asks.ensures)
