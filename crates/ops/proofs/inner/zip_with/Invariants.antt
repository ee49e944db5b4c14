use Prim.Native.Nat.{◌+◌, ◌-◌}
use lib.ListN.{length}
use Rattle.num.specs.Numbers.{operation}
use Rattle.ops.proofs.Zips.{Zipped}
use Rattle.ops.proofs.inner.zip_with.Given as goal

abbrev pub invariant-loop-here : goal.invariant-loop-here
invariant-loop-here l =
    Zipped (operation l.code) l.fill_a l.fill_b l.a_ends l.a_values l.b_ends l.b_values l.initial.out_ends l.initial.out_values l.out_ends l.out_values l.writer l.here

abbrev pub decreases-loop-here : goal.decreases-loop-here
decreases-loop-here l = length l.a_ends + length l.b_ends - (l.here.a.index + l.here.b.index)
