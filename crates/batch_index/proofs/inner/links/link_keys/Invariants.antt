use Prim.Native.Nat.{◌-◌, ◌≤◌}
use Rattle.batch_index.proofs.Links.{Linking}
use Rattle.batch_index.specs.Workers.{looked_up, part}
use Rattle.batch_index.proofs.inner.links.link_keys.Given as goal

abbrev pub invariant-loop-i : goal.invariant-loop-i
invariant-loop-i l =
    (l.from ≤ l.i)
    × Linking (looked_up l.table l.filter (part l.from l.to l.keys)) l.keys l.from (l.end - l.from) l.first l.next l.positions l.count l.i
