use Rattle.std.proofs.Common.{◌+ℤ◌, ◌-ℤ◌, ◌*ℤ◌, sym, ◌∙◌, to_z-of_z, rules}
use lib.Signed.{lt_z}
use Rattle.num.specs.Numbers.{eq_z, wrap, smaller_of, larger_of, midpoint, flag, operation}
use Rattle.num.proofs.Bits.{told-call}
use Rattle.num.proofs.Operation.{operation-last}
use Rattle.num.proofs.apply.Goals as goal

pub returns-in-0 : goal.returns-in-0
unfolding operation
returns-in-0 c =
    let f = c.ranges in
    rw c.in-0.is (told-call (λ x y. wrap (x +ℤ y)) f.x f.y c.wrapping_add.type_inv c.wrapping_add.ensures)

pub returns-in-1 : goal.returns-in-1
unfolding operation
returns-in-1 c =
    let f = c.ranges in
    rw c.in-1.is (told-call (λ x y. wrap (x -ℤ y)) f.x f.y c.wrapping_sub.type_inv c.wrapping_sub.ensures)

pub returns-in-2 : goal.returns-in-2
unfolding operation
returns-in-2 c =
    let f = c.ranges in
    rw c.in-2.is (told-call (λ x y. wrap (x *ℤ y)) f.x f.y c.wrapping_mul.type_inv c.wrapping_mul.ensures)

pub returns-in-3 : goal.returns-in-3
unfolding operation
returns-in-3 c =
    let f = c.ranges in
    rw c.in-3.is (told-call smaller_of f.x f.y c.smaller.type_inv c.smaller.ensures)

pub returns-in-4 : goal.returns-in-4
unfolding operation
returns-in-4 c =
    let f = c.ranges in
    rw c.in-4.is (told-call larger_of f.x f.y c.larger.type_inv c.larger.ensures)

pub returns-in-5 : goal.returns-in-5
unfolding operation
returns-in-5 c = rw c.in-5.is (to_z-of_z c.ranges.x)

pub returns-in-6 : goal.returns-in-6
unfolding operation
returns-in-6 c = rw c.in-6.is (to_z-of_z c.ranges.y)

pub returns-in-7 : goal.returns-in-7
unfolding operation
returns-in-7 c =
    let f = c.ranges in
    rw c.in-7.is (told-call (λ x y. flag (eq_z x y)) f.x f.y c.equal.type_inv c.equal.ensures)

pub returns-in-8 : goal.returns-in-8
unfolding operation
returns-in-8 c =
    let f = c.ranges in
    rw c.in-8.is (told-call (λ x y. flag (lt_z x y)) f.x f.y c.less.type_inv c.less.ensures)

pub returns-in_default : goal.returns-in_default
returns-in_default c =
    let half = c.midpoint_toward_zero in
    told-call midpoint c.ranges.x c.ranges.y half.type_inv half.ensures
    ∙ sym (operation-last c.args.code c.args.x c.args.y (search rules))
