use mathlib.Core.Path.{refl}
use native.Mathlib.Omega.{arith}
use borrow.Author.Rules.{rules}
use Rattle.column.proofs.Blocks.{block_start}
use Rattle.getitems.proofs.Placing.{placing_start, placing_item, placing_fits, placing_next, placing_end}
use Rattle.getitems.proofs.inner.getitems.Goals as goal

pub loop-i-init : goal.loop-i-init
loop-i-init c = record { placing = placing_start c.requires; kept = block_start refl }

pub slice_at-used-requires : goal.slice_at-used-requires
slice_at-used-requires c =
    placing_item c.requires c.loop-i.invariant.placing c.loop-i-test.true (search rules) (search rules) c.find_next-first.ensures.1

pub overflow_add-used : goal.overflow_add-used
overflow_add-used c =
    let f = placing_fits c.requires c.loop-i.invariant.placing c.loop-i-test.true (search rules) (search rules) c.slice_at-used.ensures in
    omega (arith, f)

pub loop-i-preserved : goal.loop-i-preserved
loop-i-preserved c = record {
  placing = placing_next c.requires c.loop-i.invariant.placing c.loop-i-test.true (search rules) (search rules) c.slice_at-used.ensures;
  kept = c.find_next-first.ensures.2;
}

pub returns : goal.returns
returns c = placing_end c.requires c.loop-i.invariant.placing c.loop-i-test.false
