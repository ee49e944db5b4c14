use Rattle.std.proofs.Common.{rules}
use Rattle.column.proofs.Promised.{value-refused}
use Rattle.slice.specs.Calls.{slice_view}
use Rattle.slice.proofs.Viewing.{length-fits, view-found}
use Rattle.slice.proofs.slice_view.Goals as goal

pub overflow_sub-result : goal.overflow_sub-result
overflow_sub-result c =
    length-fits _ _ c.ranges.start c.ranges.end c.in_ok-ask_sequence.ensures c.touched-touched.ensures (search rules) (search rules)

pub returns : goal.returns
returns c =
    view-found _ _ c.ranges.start c.ranges.end c.in_ok-ask_sequence.ensures c.touched-touched.ensures (search rules) (search rules)

pub returns-in_err-ask_sequence : goal.returns-in_err-ask_sequence
unfolding slice_view
returns-in_err-ask_sequence c = value-refused _ _ _ c.from_residual.ensures.1 c.in_err-ask_sequence.ensures
