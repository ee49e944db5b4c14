use mathlib.Core.Path.{ap, sym, ◌∙◌, refl}
use native.Mathlib.Omega.{arith}
use mir.Val.{of_z}
use mir.Syntax.{w64}
use Rattle.num.proofs.Bits.{bits-eq_z, bits_ne_z}
use Rattle.plan.proofs.Walking.{walk-moves}
use Rattle.plan.proofs.Step.{more_left, none_more}
use Rattle.equals.proofs.Comparing.{compared_start, compared-end, compared-next, compared-differ, other-lengths, same_numbers}
use Rattle.equals.proofs.inner.equals.Goals as goal

pub returns-then-length : goal.returns-then-length
returns-then-length c = other-lengths _ _ _ _ c.requires (λ e. c.if-length.true (ap (of_z w64) (c.length.ensures ∙ e ∙ sym c.length-2.ensures)))

pub loop-here-init : goal.loop-here-init
loop-here-init c = compared_start _ _ _ _ c.start-here.ensures

pub returns-then-x-y : goal.returns-then-x-y
returns-then-x-y c =
    let x = c.entry_or-x in
    let y = c.entry_or-y in
    let lengths = same_numbers c.length.ensures c.length-2.ensures c.length.type_inv c.length-2.type_inv c.if-length.false in
    let differ = bits_ne_z {a = x.result} {b = y.result} (record { sfits = x.type_inv }) (record { sfits = y.type_inv }) c.if-x-y.true in
    compared-differ _ _ _ _ c.requires lengths c.loop-here.invariant c.next-segment.ensures x.ensures y.ensures differ refl

pub loop-here-smaller : goal.loop-here-smaller
loop-here-smaller c =
    let walk = c.loop-here.invariant.walk in
    omega (arith, walk-moves _ _ walk c.next-segment.ensures, (more_left walk.standing c.more.ensures c.loop-here-test.true).1)

pub loop-here-preserved : goal.loop-here-preserved
loop-here-preserved c =
    let x = c.entry_or-x in
    let y = c.entry_or-y in
    let lengths = same_numbers c.length.ensures c.length-2.ensures c.length.type_inv c.length-2.type_inv c.if-length.false in
    let equal = bits-eq_z {a = x.result} {b = y.result} (record { sfits = x.type_inv }) (record { sfits = y.type_inv }) c.if-x-y.false in
    compared-next _ _ _ _ c.requires lengths c.loop-here.invariant c.next-segment.ensures x.ensures y.ensures equal refl

pub returns : goal.returns
returns c =
    let lengths = same_numbers c.length.ensures c.length-2.ensures c.length.type_inv c.length-2.type_inv c.if-length.false in
    let k = c.loop-here.invariant in
    compared-end _ _ _ _ c.requires lengths k (none_more k.walk.standing c.more.ensures c.loop-here-test.false)
