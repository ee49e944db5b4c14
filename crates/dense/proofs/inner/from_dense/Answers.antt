use mathlib.Core.Path.{◌≡◌}
use Prim.Native.Nat.{◌+◌, ◌*◌, ◌/◌}
use lib.ListN.{length}
use native.Mathlib.Omega.{arith}
use Rattle.num.proofs.Bits.{back}
use Rattle.dense.proofs.Encoding.{filled_none, encoded_none, encodable, encoded_on, encoded_at, encoded_end}
use Rattle.dense.proofs.inner.from_dense.Goals as goal

pub returns-then-values-eq0 : goal.returns-then-values-eq0
returns-then-values-eq0 c = filled_none _ _ _ c.if-values-eq0.true

pub loop-block-init : goal.loop-block-init
loop-block-init c = encoded_none _ _ _ (back _ (omega arith))

pub push_block-writer-requires : goal.push_block-writer-requires
push_block-writer-requires c =
    let s = c.requires in
    (omega arith, encodable c.loop-block.invariant s.0 s.1 (omega arith) _ (omega arith) (omega arith))

pub loop-block-preserved : goal.loop-block-preserved
loop-block-preserved c =
    let s = c.requires in
    let e : (c.loop-block.block + 1) * 32 ≡ c.loop-block.block * 32 + 32 = omega arith in
    rw e (encoded_on c.loop-block.invariant s.0 s.1 (omega arith) c.push_block-writer.ensures (omega arith) (omega arith))

pub push_values-end-requires : goal.push_values-end-requires
push_values-end-requires c =
    let s = c.requires in
    let e : c.loop-block.block ≡ length c.args.values.now / 32 = omega arith in
    encodable (rw e at c.loop-block.invariant) s.0 s.1 (omega arith) _ (omega arith) (omega arith)

pub overflow_add-result : goal.overflow_add-result
overflow_add-result c = omega (arith, encoded_at c.push_values-end.ensures (omega arith))

pub returns : goal.returns
returns c =
    let s = c.requires in
    let all = encoded_on c.loop-block.invariant s.0 s.1 (omega arith) c.push_values-end.ensures (omega arith) (omega arith) in
    encoded_end all s.0 s.1 (omega arith) (omega arith) (omega arith)
