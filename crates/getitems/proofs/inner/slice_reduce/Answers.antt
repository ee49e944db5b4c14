use native.Mathlib.Omega.{arith}
use borrow.Author.Rules.{rules}
use Rattle.getitems.proofs.Reductions.{reducing_next, reducing_end}
use Rattle.reduce.proofs.Intervals.{filling_start}
use Rattle.getitems.proofs.inner.slice_reduce.Goals as goal

pub loop-i-init : goal.loop-i-init
loop-i-init c = filling_start _ _ _

pub loop-i-preserved : goal.loop-i-preserved
loop-i-preserved c =
    reducing_next c.requires c.args.code c.args.ddof c.loop-i.invariant c.loop-i-test.true (search rules) (search rules) c.reduce_slice-reduction.ensures.0 c.kind.ensures
    c.bits.ensures

pub returns : goal.returns
returns c = reducing_end c.requires c.args.code c.args.ddof c.loop-i.invariant c.ranges.ddof (omega arith)
