use native.Mathlib.Omega.{arith}
use borrow.Author.Rules.{rules}
use Rattle.merge_mask.proofs.Writing.{neighbours-told}
use Rattle.merge_mask.proofs.inner.merge_by.Goals as goal

pub returns : goal.returns
returns c =
    c.merge_groups.ensures _ (λ run b some inside told.
    neighbours-told c.args.code c.requires.1 c.requires.2 c.args.values.now run some (omega (arith, c.requires.0.paired)) (search rules))
