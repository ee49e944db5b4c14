use Rattle.batch_index.proofs.Wanted.{note-found, note_end}
use Rattle.batch_index.proofs.Table.{looked_up-position}
use borrow.Author.Rules.{rules}
use Rattle.batch_index.proofs.inner.wanted.note_positions.Goals as goal

pub loop-i-preserved-then-w-wanted : goal.loop-i-preserved-then-w-wanted
loop-i-preserved-then-w-wanted c =
    note-found _ _ _ (looked_up-position _ _ _) c.loop-i.invariant c.loop-i-test.true c.look_up-w.ensures c.if-w-wanted.true (search rules)

pub returns : goal.returns
returns c = note_end _ _ _ c.loop-i-test.false c.loop-i.invariant
