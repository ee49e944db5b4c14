use Rattle.slice.proofs.Asks.{slice-touches, slice-written, slice-refused}
use Rattle.slice.proofs.slice.Goals as goal

pub slice-n-requires : goal.slice-n-requires
slice-n-requires c = slice-touches _ _ c.ranges.start c.ranges.end c.touched-touched.ensures c.in_ok-ask_sequence_into.ensures

pub returns : goal.returns
returns c = slice-written _ _ c.ranges.start c.ranges.end c.touched-touched.ensures c.in_ok-ask_sequence_into.ensures c.slice-n.ensures

pub returns-in_err-ask_sequence_into : goal.returns-in_err-ask_sequence_into
returns-in_err-ask_sequence_into c =
    slice-refused _ _ c.ranges.start c.ranges.end c.touched-touched.ensures _ _ c.from_residual.ensures.1 c.in_err-ask_sequence_into.ensures
