use mathlib.Core.Path.{◌∙◌}
use native.Mathlib.Omega.{arith}
use lib.ListN.{length-set}
use mir.Facts.{to_z-of_z}
use Rattle.num.proofs.Bits.{back}
use Rattle.column.specs.Runs.{runs_of}
use Rattle.column.proofs.Ends.{rising}
use Rattle.ranges_where.specs.Calls.{ranges_of}
use Rattle.ranges_where.proofs.Ranging.{tested, no_ranges, range_first, range-next, range_end, with_number}
use borrow.Author.Rules.{rules}
use Rattle.ranges_where.proofs.inner.ranges_where.Goals as goal

pub returns-then-first-ends : goal.returns-then-first-ends
unfolding ranges_of
returns-then-first-ends c =
    let es = c.args.ends.now in
    let vs = c.args.values.now in
    with_number c.args.code (runs_of es vs) (to_z-of_z c.ranges.number)
    (no_ranges _ es vs _ _ (rising es c.requires.2) c.requires.3 c.first_passing-first.ensures c.if-first-ends.true)

pub loop-r-init : goal.loop-r-init
loop-r-init c =
    let es = c.args.ends.now in
    let passing = c.first_passing-first.ensures in
    range_first _ es c.args.values.now (rising es c.requires.2) c.requires.3 c.args.out_starts.now c.args.out_ends.now
    passing (back _ c.end_before-start.type_inv ∙ c.end_before-start.ensures) (back _ (omega arith))
    (omega arith) c.requires.4 c.requires.5

pub loop-r-preserved : goal.loop-r-preserved
loop-r-preserved c =
    let es = c.args.ends.now in
    range-next _ es c.args.values.now (rising es c.requires.2) c.requires.3 c.loop-r.invariant (omega arith)
    (rw length-set c.requires.4) (rw length-set c.requires.5)
    (tested c.requires.0 c.requires.1 (to_z-of_z c.ranges.number) c.holds-passes.ensures (back _ (omega arith)))
    c.next_range-last.ensures (back _ (omega arith)) (search rules) (search rules)

pub returns : goal.returns
unfolding ranges_of
returns c =
    let es = c.args.ends.now in
    let vs = c.args.values.now in
    with_number c.args.code (runs_of es vs) (to_z-of_z c.ranges.number)
    (range_end _ es vs c.args.out_starts.now c.args.out_ends.now _ _ c.loop-r.invariant c.requires.3 (omega arith) (omega arith) (omega arith))
