use lib.ListN.{length}
use Rattle.batch_collapse.proofs.Next.{PastGroup}
use mathlib.Core.Path.{◌≡◌}
use Prim.Native.Nat.{◌≤◌}
use Rattle.batch_index.specs.Workers.{Linked}
use Rattle.batch_collapse.proofs.inner.next_group.Given as goal

abbrev pub invariant-loop-i : goal.invariant-loop-i
invariant-loop-i l =
    (length l.first ≡ length l.initial.first)
    × (length l.next ≡ length l.initial.next)
    × (length l.positions ≡ length l.initial.positions)
    × PastGroup l.keys l.from l.i
    × (l.links.from ≤ l.i)
    × Linked l.keys l.first l.next l.positions l.links
