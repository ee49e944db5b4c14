use mathlib.Core.Path.{ap, ◌∙◌}
use native.Mathlib.Omega.{arith}
use mir.Facts.{to_z_pos, to_z-of_z}
use mir.Syntax.{w64}
use Rattle.num.specs.Numbers.{operation}
use Rattle.num.proofs.Bits.{back}
use Rattle.column.specs.Combine.{folded}
use Rattle.many.proofs.Walking.{walk_placed, walk_start, walk-less}
use Rattle.many.proofs.Keeping.{kept-shown}
use Rattle.zip_many.proofs.Zips.{zipped-none, zipped-start, zipped-last, zipped-end, zipped-room, zipped-more}
use Rattle.zip_many.proofs.Flats.{placed-some}
use Rattle.zip_many.proofs.inner.zip_walk.Goals as goal

pub returns-then-ends-eq0 : goal.returns-then-ends-eq0
returns-then-ends-eq0 c = zipped-none _ _ _ _ _ _ _ c.requires.0 c.if-ends-eq0.true

pub read_current-requires : goal.read_current-requires
read_current-requires c = (walk_placed _ _ c.requires.0.walkable, c.requires.1)

pub step-end-requires : goal.step-end-requires
step-end-requires c = (walk_placed _ _ c.requires.0.walkable, c.requires.0.paired, c.read_current.ensures, omega arith)

pub fold-first-requires : goal.fold-first-requires
fold-first-requires c =
    let walk = walk_start _ _ c.requires.0.walkable c.step-end.ensures.0 in
    omega (arith, c.step-end.ensures.1.long_values, placed-some walk.placed (omega (arith, c.if-ends-eq0.false)))

pub loop-end-init : goal.loop-end-init
loop-end-init c =
    let kept = c.step-end.ensures.1 in
    let walk = walk_start _ _ c.requires.0.walkable c.step-end.ensures.0 in
    let value = back _ c.fold-first.type_inv ∙ c.fold-first.ensures ∙ ap (folded (operation _)) (kept-shown kept walk.placed.count) in
    (zipped-start _ _ _ _ _ _ _ c.requires.0 c.step-end.ensures.0 value, kept)

pub push_merged-writer-requires : goal.push_merged-writer-requires
push_merged-writer-requires c =
    let k = c.loop-end.invariant in
    let value = back _ c.fold-value.type_inv ∙ c.fold-value.ensures ∙ ap (folded (operation _)) (kept-shown k.1 k.0.walk.placed.count) in
    zipped-room _ _ _ _ _ _ _ c.requires.0 k.0 c.loop-end-test.true value (omega (arith, c.well_formed))

pub loop-end-smaller : goal.loop-end-smaller
loop-end-smaller c = walk-less c.loop-end.invariant.0.walk c.loop-end-test.true c.step-end-in-loop-end.ensures.0

pub loop-end-preserved : goal.loop-end-preserved
loop-end-preserved c =
    let k = c.loop-end.invariant in
    let more = c.loop-end-test.true in
    let value = back _ c.fold-value.type_inv ∙ c.fold-value.ensures ∙ ap (folded (operation _)) (kept-shown k.1 k.0.walk.placed.count) in
    let end = to_z_pos w64 (k.0.walk.small more) in
    (zipped-more _ _ _ _ _ _ _ c.requires.0 k.0 more value end c.push_merged-writer.ensures c.step-end-in-loop-end.ensures.0, c.step-end-in-loop-end.ensures.1)

pub overflow_add-result : goal.overflow_add-result
overflow_add-result c = omega (arith, zipped-last _ _ _ _ _ _ _ c.loop-end.invariant.0, c.well_formed)

pub returns : goal.returns
returns c =
    let filled = zipped-end _ _ _ _ _ _ _ c.requires.0 c.loop-end.invariant.0 c.loop-end-test.false (omega (arith, c.if-ends-eq0.false)) in
    rw (to_z-of_z c.ranges.fill) at filled
