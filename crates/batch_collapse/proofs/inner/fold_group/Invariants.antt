use Prim.Native.Nat.{◌-◌}
use lib.ListN.{length}
use Rattle.num.specs.Numbers.{operation}
use Rattle.batch_collapse.proofs.Folding.{Folding}
use Rattle.batch_index.specs.Workers.{Listed}
use Rattle.batch_collapse.proofs.inner.fold_group.Given as goal

abbrev pub invariant-loop-member : goal.invariant-loop-member
invariant-loop-member l =
    Folding l.keys l.offsets l.ends l.values l.new_keys l.first (operation l.code) l.fill l.initial.out_ends l.out_ends l.initial.out_values
    l.out_values l.initial.scratch_ends l.scratch_ends l.initial.scratch_values l.scratch_values l.count l.member.at
    × Listed l.new_keys l.positions l.links l.member

abbrev pub decreases-loop-member : goal.decreases-loop-member
decreases-loop-member l = length l.new_keys - l.member.at
