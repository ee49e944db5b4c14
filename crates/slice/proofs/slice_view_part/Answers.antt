use mathlib.Core.Path.{sym}
use Rattle.slice.proofs.Viewing.{part-found, part-refused}
use Rattle.slice.proofs.slice_view_part.Goals as goal

pub returns-in-Ok : goal.returns-in-Ok
returns-in-Ok c = part-found _ _ c.ranges.start c.ranges.end c.in-Ok.ensures c.touched-touched.ensures

pub returns-in-Err : goal.returns-in-Err
returns-in-Err c = part-refused _ _ _ _ (sym c.in-Err.ensures)
