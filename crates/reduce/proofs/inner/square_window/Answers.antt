use borrow.Author.Rules.{rules}
use Rattle.reduce.proofs.Totals.{squares-around, square_last_fits, square_last-held, squares-last}
use Rattle.reduce.proofs.inner.square_window.Goals as goal

pub squares-sum-requires : goal.squares-sum-requires
squares-sum-requires c = squares-around c.requires (search rules)

pub overflow_sub-end : goal.overflow_sub-end
overflow_sub-end c = square_last_fits c.requires (search rules) c.squares-sum.ensures (search rules) (search rules)

pub add_square-requires : goal.add_square-requires
add_square-requires c = square_last-held c.requires (search rules) c.squares-sum.ensures (search rules) (search rules)

pub returns : goal.returns
returns c = squares-last c.requires (search rules) c.squares-sum.ensures (search rules) (search rules) (search rules) c.add_square.ensures
