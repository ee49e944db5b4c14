use mir.Facts.{to_z-of_z}
use Rattle.many.proofs.Keeping.{column-stays, column-goes}
use Rattle.many.proofs.inner.step_column.Goals as goal

pub returns-then-end-start : goal.returns-then-end-start
returns-then-end-start c = column-stays c.requires.3 c.requires.1 c.if-end-start.true

pub returns : goal.returns
returns c = column-goes c.requires.3 c.requires.1 c.if-end-start.false (rw (to_z-of_z c.ranges.fill) at c.read_column.ensures)
