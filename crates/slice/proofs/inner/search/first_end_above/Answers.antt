use Rattle.std.proofs.Common.{arith, to_z-of_z}
use Rattle.slice.proofs.Searching.{above_negative, halving_start}
use Rattle.slice.proofs.inner.search.first_end_above.Goals as goal

pub returns-then-position-lt0 : goal.returns-then-position-lt0
returns-then-position-lt0 c = let f = to_z-of_z c.ranges.position in (omega arith, λ v. above_negative _ _ (rw f at c.if-position-lt0.true) v)

pub loop-size-init : goal.loop-size-init
loop-size-init c = halving_start _ _
