use Rattle.std.proofs.Common.{to_z-of_z}
use Rattle.num.proofs.Midpoint.{down-sum, down_fits, midpoint-fits, midpoint-down, midpoint_up}
use Rattle.num.proofs.midpoint_toward_zero.Goals as goal

pub overflow_add-down : goal.overflow_add-down
overflow_add-down c = let f = c.ranges in rw (down-sum f.x f.y) (down_fits f.x f.y)

pub overflow_add-result : goal.overflow_add-result
overflow_add-result c =
    let f = c.ranges in
    rw (midpoint_up f.x f.y c.if-down-lt0.true) (midpoint-fits f.x f.y)

pub returns-then-down-lt0 : goal.returns-then-down-lt0
returns-then-down-lt0 c =
    let f = c.ranges in
    rw (midpoint_up f.x f.y c.if-down-lt0.true) (to_z-of_z (midpoint-fits f.x f.y))

pub returns-else-down-lt0 : goal.returns-else-down-lt0
returns-else-down-lt0 c = let f = c.ranges in midpoint-down f.x f.y c.if-down-lt0.false
