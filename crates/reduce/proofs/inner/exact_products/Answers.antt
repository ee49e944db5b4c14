use lib.Ieee.{of_bits}
use Prim.Native.Nat.{zero-le}
use native.Mathlib.Omega.{arith}
use mir.Facts.{to_z-of_z}
use borrow.Author.Rules.{rules}
use Rattle.reduce.proofs.Walking.{end_natural, walked_start, exactly_held, exact_next}
use Rattle.reduce.proofs.inner.exact_products.Goals as goal

pub loop-i-init : goal.loop-i-init
unfolding of_bits
loop-i-init c = record {
  walked = walked_start _ _ _ _ _ _ zero-le (rw (to_z-of_z c.ranges.start) c.requires.1);
  exact = λ j h. let z : ⊥ = omega arith in absurd z;
}

pub is_exact-requires : goal.is_exact-requires
is_exact-requires c = end_natural c.loop-i.invariant.walked

pub add_exact_product-total-requires : goal.add_exact_product-total-requires
add_exact_product-total-requires c = exactly_held c.loop-i.invariant.walked (search rules) (c.is_exact.ensures c.if-not-is_exact.false)

pub loop-i-preserved : goal.loop-i-preserved
loop-i-preserved c =
    exact_next c.loop-i.invariant (search rules) (c.is_exact.ensures c.if-not-is_exact.false) c.requires.0 c.loop-i-test.true (search rules)
    c.add_exact_product-total.ensures
