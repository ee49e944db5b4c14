use Prim.Native.Nat.{◌-◌}
use lib.ListN.{length, get_or}
use mathlib.Core.List.{[]}
use Rattle.num.specs.Numbers.{operation}
use Rattle.column.specs.Flat.{flat, columns}
use Rattle.batch_collapse.proofs.Filling.{Asking}
use Rattle.batch_index.specs.Workers.{Listed}
use Rattle.batch_collapse.proofs.inner.ask_group.Given as goal

abbrev pub invariant-loop-member : goal.invariant-loop-member
invariant-loop-member l =
    Asking (operation l.code) (get_or l.new_keys l.first 0) l.new_keys (columns (flat l.offsets l.ends l.values))
    (get_or (columns (flat l.offsets l.ends l.values)) l.first []) l.member.at
    × Listed l.new_keys l.positions l.links l.member

abbrev pub decreases-loop-member : goal.decreases-loop-member
decreases-loop-member l = length l.new_keys - l.member.at
