use Prim.Native.Nat.{◌-◌}
use lib.ListN.{length, get_or}
use Rattle.column.specs.Flat.{flat, columns}
use Rattle.batch_collapse.proofs.Members.{Summing}
use Rattle.batch_index.specs.Workers.{Listed}
use Rattle.batch_collapse.proofs.inner.group_runs.Given as goal

abbrev pub invariant-loop-member : goal.invariant-loop-member
invariant-loop-member l =
    Summing (get_or l.new_keys l.first 0) l.new_keys (columns (flat l.offsets l.ends l.values)) l.runs l.member.at
    × Listed l.new_keys l.positions l.links l.member

abbrev pub decreases-loop-member : goal.decreases-loop-member
decreases-loop-member l = length l.new_keys - l.member.at
