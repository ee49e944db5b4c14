use native.Mathlib.Omega.{arith}
use Rattle.many.proofs.Places.{placed-column}
use Rattle.many.proofs.Keeping.{kept_more}
use Rattle.many.proofs.inner.read_current.Goals as goal

pub read_column-requires : goal.read_column-requires
read_column-requires c =
    let p = placed-column c.requires.0 c.loop-c.c c.loop-c-test.true in
    record {
      offset = p.offset;
      rises = omega (arith, p.place);
      inside = p.inside;
      valid = p.valid;
      paired = c.requires.1.paired;
      room_ends = omega arith;
      room_values = omega arith;
    }

pub loop-c-preserved : goal.loop-c-preserved
loop-c-preserved c = kept_more c.loop-c.invariant c.loop-c-test.true c.read_column.ensures
