use Prim.Native.Nat.{◌<◌}
use lib.ListN.{length}
use mathlib.Core.Path.{refl}
use native.Mathlib.Omega.{arith}
use mir.Facts.{to_z-of_z}
use Rattle.many.proofs.Stepping.{step_start, step_end, step-placed, step-next}
use Rattle.many.proofs.Keeping.{stepped-end}
use Rattle.many.proofs.inner.step.Goals as goal

pub loop-c-init : goal.loop-c-init
loop-c-init c = (step_start _ _ _ _ c.requires.0, rw (to_z-of_z c.ranges.fill) c.requires.2)

pub step_column-end-requires : goal.step_column-end-requires
step_column-end-requires c =
    let k = c.loop-c.invariant in
    (step-placed k.0 c.requires.0 c.loop-c-test.true, omega arith, c.requires.1, k.1)

pub loop-c-preserved : goal.loop-c-preserved
loop-c-preserved c =
    let (s, kept) = c.loop-c.invariant in
    let inside : c.loop-c.c < length c.loop-c.places = omega arith in
    let f = c.step_column-end.ensures in
    let next = step-next s c.requires.0 c.loop-c-test.true (kept.ends c.loop-c.c inside) c.requires.3 refl (stepped-end f inside)
    c.smaller_count-least.ensures in
    (rw f.places next, f.kept)

pub returns : goal.returns
returns c =
    let k = c.loop-c.invariant in
    (step_end k.0 c.loop-c-test.false, rw (to_z-of_z c.ranges.fill) at k.1)
