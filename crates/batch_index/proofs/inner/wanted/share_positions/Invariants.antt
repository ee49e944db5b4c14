use Rattle.batch_index.proofs.Wanted.{Shared}
use Rattle.batch_index.specs.Workers.{looked_up}
use Rattle.batch_index.proofs.inner.wanted.share_positions.Given as goal

abbrev pub invariant-loop-i : goal.invariant-loop-i
invariant-loop-i l = Shared (looked_up l.table l.filter l.wanted) l.keys l.wanted l.found l.i
