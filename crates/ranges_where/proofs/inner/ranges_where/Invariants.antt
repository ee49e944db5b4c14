use Rattle.num.specs.Numbers.{operation}
use Rattle.ranges_where.proofs.Ranging.{Ranging}
use Rattle.ranges_where.proofs.inner.ranges_where.Given as goal

abbrev pub invariant-loop-r : goal.invariant-loop-r
invariant-loop-r l = Ranging (λ v. operation l.code v l.number) l.ends l.values l.initial.out_starts l.initial.out_ends l.out_starts l.out_ends l.last l.before l.r
