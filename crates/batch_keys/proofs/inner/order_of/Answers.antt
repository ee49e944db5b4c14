use mathlib.Core.Path.{sym}
use Rattle.batch_keys.proofs.Doubles.{first-none}
use borrow.Author.Rules.{rules}
use Rattle.batch_keys.proofs.inner.order_of.Goals as goal

pub returns-then-first_duplicate-keys : goal.returns-then-first_duplicate-keys
returns-then-first_duplicate-keys c = sym (first-none _ c.first_duplicate.ensures (search rules))
