use mir.Facts.{to_z_pos}
use mir.Syntax.{w64}
use native.Mathlib.Omega.{arith}
use Rattle.num.proofs.Bits.{back, end_nat, end_cast}
use Rattle.column.proofs.Appending.{append_at, append-start, append-room, append-next, append-end}
use Rattle.column.proofs.inner.append_merged.Goals as goal

pub loop-r-init : goal.loop-r-init
loop-r-init c = append-start _ _ _ _ _ _ _

pub overflow_cast-to : goal.overflow_cast-to
overflow_cast-to c =
    let a = append_at _ _ _ _ _ _ _ c.requires.movable c.loop-r.invariant c.loop-r-test.true in
    end_cast a.0 c.end-1.given

pub overflow_sub-to : goal.overflow_sub-to
overflow_sub-to c =
    let a = append_at _ _ _ _ _ _ _ c.requires.movable c.loop-r.invariant c.loop-r-test.true in
    omega (arith, a.1, end_nat a.0 c.end-1.given)

pub overflow_cast-to-in-loop-r : goal.overflow_cast-to-in-loop-r
overflow_cast-to-in-loop-r c =
    let a = append_at _ _ _ _ _ _ _ c.requires.movable c.loop-r.invariant c.loop-r-test.true in
    omega (arith, a.2, end_nat a.0 c.end-1.given)

pub push_merged-next-requires : goal.push_merged-next-requires
push_merged-next-requires c =
    let a = append_at _ _ _ _ _ _ _ c.requires.movable c.loop-r.invariant c.loop-r-test.true in
    append-room _ _ _ _ _ _ _ c.requires.movable c.loop-r.invariant c.loop-r-test.true (back _ c.value-1.given) c.requires.behind
    (omega (arith, c.well_formed))

pub loop-r-preserved : goal.loop-r-preserved
loop-r-preserved c =
    let a = append_at _ _ _ _ _ _ _ c.requires.movable c.loop-r.invariant c.loop-r-test.true in
    append-next _ _ _ _ _ _ _ c.requires.movable c.loop-r.invariant c.loop-r-test.true (back _ c.value-1.given)
    c.push_merged-next.ensures (let n = end_nat a.0 c.end-1.given in rw n (to_z_pos w64 a.2))

pub returns : goal.returns
returns c = append-end _ _ _ _ _ _ _ c.requires.movable c.loop-r.invariant c.loop-r-test.false
