use Rattle.shift.proofs.Shifting.{shift_known, shift-nothing, shift-filled, shift-some, shifted-up, shifted-down}
use Rattle.shift.proofs.inner.shift.Goals as goal

pub returns-then-length-eq0 : goal.returns-then-length-eq0
returns-then-length-eq0 c =
    let k = shift_known _ _ _ _ c.requires c.length.type_inv c.length.ensures c.to_nat-length.ensures in
    shift-nothing k _ _ c.if-length-eq0.true

pub returns-then-length-by : goal.returns-then-length-by
returns-then-length-by c =
    let k = shift_known _ _ _ _ c.requires c.length.type_inv c.length.ensures c.to_nat-length.ensures in
    shift-filled k c.ranges.distance c.ranges.fill c.unsigned_abs-by.ensures c.if-length-eq0.false c.if-length-by.true c.push_merged-filled.ensures

pub shift_up-requires : goal.shift_up-requires
shift_up-requires c =
    let k = shift_known _ _ _ _ c.requires c.length.type_inv c.length.ensures c.to_nat-length.ensures in
    (shift-some c.args.distance c.unsigned_abs-by.ensures c.if-distance-gt0.true, k.moved _ c.if-length-by.false)

pub shift_down-requires : goal.shift_down-requires
shift_down-requires c =
    let k = shift_known _ _ _ _ c.requires c.length.type_inv c.length.ensures c.to_nat-length.ensures in
    k.moved _ c.if-length-by.false

pub returns-then-distance-gt0 : goal.returns-then-distance-gt0
returns-then-distance-gt0 c =
    let k = shift_known _ _ _ _ c.requires c.length.type_inv c.length.ensures c.to_nat-length.ensures in
    shifted-up k c.ranges.distance c.ranges.fill c.unsigned_abs-by.ensures c.if-length-by.false c.if-distance-gt0.true c.shift_up.ensures

pub returns-else-distance-gt0 : goal.returns-else-distance-gt0
returns-else-distance-gt0 c =
    let k = shift_known _ _ _ _ c.requires c.length.type_inv c.length.ensures c.to_nat-length.ensures in
    shifted-down k c.ranges.distance c.ranges.fill c.unsigned_abs-by.ensures c.if-length-by.false c.if-distance-gt0.false c.shift_down.ensures
