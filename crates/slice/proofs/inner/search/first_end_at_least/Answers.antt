use Rattle.std.proofs.Common.{arith, to_z-of_z}
use Rattle.slice.proofs.Searching.{least-low, least_is, before-fits}
use Rattle.slice.proofs.inner.search.first_end_at_least.Goals as goal

pub returns-then-position-le0 : goal.returns-then-position-le0
returns-then-position-le0 c = let f = to_z-of_z c.ranges.position in (omega arith, λ v. least-low _ _ (rw f at c.if-position-le0.true) v)

pub returns : goal.returns
returns c =
    let f = to_z-of_z c.ranges.position in
    let t = rw f at c.if-position-le0.false in
    let q = to_z-of_z (before-fits _ t c.ranges.position) in
    (c.first_end_above.ensures.0, λ v. least_is _ _ t q (rw f at (c.first_end_above.ensures.1 v)))
