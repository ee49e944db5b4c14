use mathlib.Core.Path.{sym}
use Rattle.std.specs.Prelude.{Some}
use Rattle.std.proofs.Common.{sym, ap, ◌∙◌, to_z-of_z}
use Rattle.column.proofs.Promised.{value-answered, value-refused}
use Rattle.slice.specs.Calls.{run_index}
use Rattle.slice.proofs.Covering.{covering-inside, covering-past, covering_negative}
use Rattle.slice.proofs.run_index.Goals as goal

pub returns-then-position-lt0 : goal.returns-then-position-lt0
unfolding run_index
returns-then-position-lt0 c =
    let y = sym c.in_ok-ask_ends.ensures in
    value-answered y (sym (covering_negative _ _ (rw (to_z-of_z c.ranges.position) at c.if-position-lt0.true) y))

pub returns-then-index-ends : goal.returns-then-index-ends
unfolding run_index
returns-then-index-ends c =
    let y = sym c.in_ok-ask_ends.ensures in
    let p = to_z-of_z c.ranges.position in
    let i = rw p at (c.first_end_above-index.ensures.1 y) in
    value-answered y (ap Some i ∙ sym (covering-inside _ _ (rw p at c.if-position-lt0.false) (rw i at c.if-index-ends.true)))

pub returns-else-index-ends : goal.returns-else-index-ends
unfolding run_index
returns-else-index-ends c =
    let y = sym c.in_ok-ask_ends.ensures in
    let p = to_z-of_z c.ranges.position in
    let i = rw p at (c.first_end_above-index.ensures.1 y) in
    value-answered y (sym (covering-past _ _ (rw p at c.if-position-lt0.false) (rw i at c.if-index-ends.false)))

pub returns-in_err-ask_ends : goal.returns-in_err-ask_ends
unfolding run_index
returns-in_err-ask_ends c = value-refused _ _ _ c.from_residual.ensures.1 c.in_err-ask_ends.ensures
