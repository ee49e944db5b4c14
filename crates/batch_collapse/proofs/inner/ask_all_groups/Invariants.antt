use Prim.Native.Nat.{◌-◌}
use lib.ListN.{length}
use Rattle.num.specs.Numbers.{operation}
use Rattle.batch.specs.Batch.{batch}
use Rattle.batch_collapse.specs.Calls.{renamed}
use Rattle.batch_collapse.proofs.Groups.{AskingAll}
use mathlib.Core.Path.{◌≡◌}
use Rattle.batch_index.specs.Workers.{LinkLent}
use Rattle.batch_collapse.specs.Workers.{AtGroup}
use Rattle.batch_collapse.proofs.inner.ask_all_groups.Given as goal

abbrev pub invariant-loop-group : goal.invariant-loop-group
invariant-loop-group l =
    (length l.first ≡ length l.initial.first)
    × (length l.next ≡ length l.initial.next)
    × (length l.positions ≡ length l.initial.positions)
    × AskingAll (operation l.code) (renamed (batch l.keys l.offsets l.ends l.values) l.new_keys) l.new_keys l.n l.group.first.at
    × AtGroup l.new_keys l.first l.next l.positions l.group
    × LinkLent l.new_keys l.first l.next l.positions

abbrev pub decreases-loop-group : goal.decreases-loop-group
decreases-loop-group l = length l.new_keys - l.group.first.at
