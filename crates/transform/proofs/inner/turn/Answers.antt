use Prim.Native.Nat.{◌-◌}
use mathlib.Core.Path.{sym, ◌∙◌}
use native.Mathlib.Omega.{arith}
use lib.IntN.{pos}
use lib.ListN.{length, get_or, length-map, get_or-map}
use Rattle.num.proofs.Bits.{back}
use Rattle.transform.proofs.Reversing.{turning-start, turning-next}
use Rattle.transform.proofs.inner.turn.Goals as goal

pub loop-t-init : goal.loop-t-init
loop-t-init g c = λ h made. turning-start _ _

pub loop-t-preserved : goal.loop-t-preserved
loop-t-preserved g c = λ h made.
    let es = c.args.entries.now in
    let i = length es - 1 - c.loop-t.t in
    let read = back (get_or es i (pos 0)) (omega arith) in
    turning-next _ _ (c.loop-t.invariant h made) (h (pos 0)) i
    (back _ c.f.type_inv ∙ made i _ (omega arith) (rw read at c.f.ensures) ∙ sym (get_or-map h es i (pos 0)))
    (rw length-map c.requires.room) (rw length-map (omega arith))
