use lib.Ieee.{of_bits}
use Prim.Native.Nat.{zero-le}
use native.Mathlib.Omega.{arith}
use mir.Facts.{to_z-of_z}
use borrow.Author.Rules.{rules}
use Rattle.reduce.proofs.Walking.{walked_start, square_exactly, square_next}
use Rattle.reduce.proofs.inner.exact_squares.Goals as goal

pub loop-i-init : goal.loop-i-init
unfolding of_bits
loop-i-init c = walked_start _ _ _ _ _ _ zero-le (rw (to_z-of_z c.ranges.start) c.requires.0)

pub add_exact_square-total-requires : goal.add_exact_square-total-requires
add_exact_square-total-requires c =
    square_exactly c.ranges.start c.loop-i.invariant c.requires.1 (omega arith) (search rules) (search rules) c.loop-i-test.true

pub loop-i-preserved : goal.loop-i-preserved
loop-i-preserved c =
    square_next c.ranges.start c.loop-i.invariant c.requires.1 (omega arith) (search rules) (search rules) c.add_exact_square-total.ensures
