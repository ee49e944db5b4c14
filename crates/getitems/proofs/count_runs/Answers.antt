use borrow.Author.Rules.{rules}
use Rattle.getitems.proofs.Items.{counting_next, counting_end}
use Rattle.getitems.proofs.count_runs.Goals as goal

pub loop-i-preserved : goal.loop-i-preserved
loop-i-preserved c = (
  counting_next c.loop-i.invariant.0 c.loop-i-test.true (search rules) (search rules) c.find_next-first.ensures.1 c.find_next-last.ensures.1
      c.count_at-count.ensures c.saturating_add-total.ensures,
  c.find_next-first.ensures.2,
  c.find_next-last.ensures.2,
)

pub returns : goal.returns
returns c = counting_end c.loop-i.invariant.0 c.loop-i-test.false
