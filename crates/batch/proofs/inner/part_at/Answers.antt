use mathlib.Core.Path.{sym, ◌∙◌}
use native.Mathlib.Omega.{arith}
use Rattle.batch.proofs.Entries.{part_is, part_none}
use Rattle.batch.proofs.inner.part_at.Goals as goal

pub returns-then-count-position : goal.returns-then-count-position
returns-then-count-position c = let a = c.args in sym (part_none a.offsets.now a.entries.now a.position (omega arith))

pub returns : goal.returns
returns c = let a = c.args in c.part.ensures ∙ sym (part_is a.offsets.now a.entries.now a.position (omega arith))
