use Rattle.batch_index.proofs.Wanted.{Noted}
use Rattle.batch_index.specs.Workers.{looked_up}
use Rattle.batch_index.proofs.inner.wanted.note_positions.Given as goal

abbrev pub invariant-loop-i : goal.invariant-loop-i
invariant-loop-i l = Noted (looked_up l.table l.filter l.wanted) l.keys l.wanted l.found l.i
