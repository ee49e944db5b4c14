use mathlib.Core.Path.{refl}
use native.Mathlib.Omega.{arith}
use Rattle.batch_keys.proofs.Blocks.{kept-start}
use Rattle.batch_getitems.proofs.Keyed.{placing_start, placing_touches, placing_fits, placing_next, placing_end}
use borrow.Author.Rules.{rules}
use Rattle.batch_getitems.proofs.inner.getitems_by.Goals as goal

pub loop-i-init : goal.loop-i-init
loop-i-init c = (placing_start c.requires.0, kept-start (λ t. (c.requires.2 t).room) (λ t. (c.requires.2 t).few), refl)

pub slice-used-requires : goal.slice-used-requires
slice-used-requires c =
    placing_touches c.requires.0 c.loop-i.invariant.0 c.loop-i-test.true (search rules) (search rules)
    c.find_next-at.ensures.0 c.part_at-part.ensures c.part_at.ensures c.touched-touched.ensures

pub overflow_add-used : goal.overflow_add-used
overflow_add-used c =
    let fits = placing_fits c.requires.0 c.loop-i.invariant.0 c.loop-i-test.true (search rules) (search rules)
    c.find_next-at.ensures.0 c.part_at-part.ensures c.part_at.ensures c.touched-touched.ensures c.slice-used.ensures in
    omega (arith, fits, c.loop-i.invariant.0.laying.long_ends, c.well_formed)

pub loop-i-preserved : goal.loop-i-preserved
loop-i-preserved c = (
  placing_next c.requires.0 c.loop-i.invariant.0 c.loop-i-test.true (search rules) (search rules)
      c.find_next-at.ensures.0 c.part_at-part.ensures c.part_at.ensures c.touched-touched.ensures c.slice-used.ensures,
  c.find_next-at.ensures.1,
  search rules,
)

pub returns : goal.returns
returns c = placing_end c.requires.0 c.loop-i.invariant.0 c.loop-i-test.false
