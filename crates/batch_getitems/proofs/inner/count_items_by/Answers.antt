use mathlib.Core.Path.{refl}
use Rattle.batch_intervals.proofs.Slices.{items-many}
use Rattle.batch_getitems.proofs.Keyed.{item_count, counting_next, counting_end}
use borrow.Author.Rules.{rules}
use Rattle.batch_getitems.proofs.inner.count_items_by.Goals as goal

pub loop-i-preserved : goal.loop-i-preserved
loop-i-preserved c =
    let q = c.requires.0 in (
      counting_next c.loop-i.invariant.0 (rw (items-many q) c.loop-i-test.true)
          (item_count q c.loop-i-test.true (search rules) (search rules) refl c.find_next-at.ensures.0
          c.part_at.ensures c.touched-touched.ensures) c.saturating_add-total.ensures,
      c.find_next-at.ensures.1,
      search rules,
    )

pub returns : goal.returns
returns c = counting_end c.loop-i.invariant.0 (rw (items-many c.requires.0) c.loop-i-test.false)
