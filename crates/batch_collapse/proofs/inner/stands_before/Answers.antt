use mathlib.Core.Path.{refl}
use Rattle.batch_collapse.proofs.Together.{before_scanned}
use borrow.Author.Rules.{rules}
use Rattle.batch_collapse.proofs.inner.stands_before.Goals as goal

pub returns : goal.returns
returns c = before_scanned _ _ _ (search rules) refl c.scan.ensures
