use Rattle.std.specs.Prelude.{Some}
use Prim.Native.Nat.{◌-◌}
use lib.ListN.{length}
use Rattle.num.specs.Numbers.{operation}
use Rattle.batch_collapse.proofs.Collapsing.{Collapsing}
use mathlib.Core.Path.{◌≡◌}
use Rattle.batch_index.specs.Workers.{LinkLent}
use Rattle.batch_collapse.specs.Workers.{AtGroup}
use Rattle.batch_collapse.proofs.inner.collapse.Given as goal

abbrev pub invariant-loop-group : goal.invariant-loop-group
invariant-loop-group l =
    (length l.first ≡ length l.initial.first)
    × (length l.next ≡ length l.initial.next)
    × (length l.positions ≡ length l.initial.positions)
    × Collapsing (operation l.code) (Some l.fill) l.keys l.offsets l.ends l.values l.new_keys l.initial.out_keys l.out_keys l.initial.out_offsets
    l.out_offsets l.initial.out_ends l.out_ends l.initial.out_values l.out_values l.initial.scratch_ends l.scratch_ends l.initial.scratch_values
    l.scratch_values l.used l.n l.group.first.at
    × AtGroup l.new_keys l.first l.next l.positions l.group
    × LinkLent l.new_keys l.first l.next l.positions

abbrev pub decreases-loop-group : goal.decreases-loop-group
decreases-loop-group l = length l.new_keys - l.group.first.at
