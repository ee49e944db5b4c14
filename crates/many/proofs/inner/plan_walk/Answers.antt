use native.Mathlib.Omega.{arith}
use mir.Facts.{to_z_pos}
use mir.Syntax.{w64}
use Rattle.many.proofs.Planning.{planning-start, planning-end, planning-ends, planning-indexes, planning-next}
use Rattle.many.proofs.Walking.{walk_placed, walk-less}
use Rattle.many.proofs.inner.plan_walk.Goals as goal

pub read_current-requires : goal.read_current-requires
read_current-requires c = (walk_placed _ _ c.requires.0, c.requires.1)

pub step-end-requires : goal.step-end-requires
step-end-requires c = (walk_placed _ _ c.requires.0, c.requires.1.paired, c.read_current.ensures, omega arith)

pub loop-end-init : goal.loop-end-init
loop-end-init c = (planning-start _ _ _ _ c.requires.0 c.step-end.ensures.0, c.step-end.ensures.1)

pub offset_bounds-out_ends-n : goal.offset_bounds-out_ends-n
offset_bounds-out_ends-n c = omega (arith, planning-ends c.loop-end.invariant.0 c.loop-end-test.true c.requires.2 c.requires.3)

pub bounds-out_ends-n : goal.bounds-out_ends-n
bounds-out_ends-n c = planning-ends c.loop-end.invariant.0 c.loop-end-test.true c.requires.2 c.requires.3

pub overflow_add-n : goal.overflow_add-n
overflow_add-n c = omega (arith, planning-ends c.loop-end.invariant.0 c.loop-end-test.true c.requires.2 c.requires.3)

pub put_places-m-requires : goal.put_places-m-requires
put_places-m-requires c = planning-indexes c.loop-end.invariant.0 c.loop-end-test.true c.requires.2 c.requires.3

pub loop-end-smaller : goal.loop-end-smaller
loop-end-smaller c = walk-less c.loop-end.invariant.0.walk c.loop-end-test.true c.step-end-in-loop-end.ensures.0

pub loop-end-preserved : goal.loop-end-preserved
loop-end-preserved c =
    let places = c.put_places-m in
    let more = c.loop-end-test.true in
    let end = to_z_pos w64 (c.loop-end.invariant.0.walk.small more) in (
      planning-next c.loop-end.invariant.0 more c.requires.2 c.requires.3 end places.ensures.0 places.auto.out places.ensures.1 c.step-end-in-loop-end.ensures.0,
      c.step-end-in-loop-end.ensures.1,
    )

pub returns : goal.returns
returns c = planning-end c.loop-end.invariant.0 c.loop-end-test.false
