use Prim.Native.Nat.{◌*◌}
use Rattle.dense.specs.Workers.{Encoded}
use Rattle.dense.proofs.inner.from_dense.Given as goal

abbrev pub invariant-loop-block : goal.invariant-loop-block
invariant-loop-block l = Encoded l.values l.initial.out_ends l.out_ends l.initial.out_values l.out_values l.writer (l.block * 32)
