use borrow.Author.Rules.{rules}
use Rattle.slice.proofs.Searching.{halving_next}
use Rattle.slice.proofs.inner.half.Goals as goal

pub returns : goal.returns
returns c = halving_next c.requires.0 c.requires.1 (search rules) (λ n. c.is_above.ensures.1 n c.requires.2) c.low_after.ensures
