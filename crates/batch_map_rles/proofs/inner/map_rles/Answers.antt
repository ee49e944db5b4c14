use Rattle.batch_map_rles.proofs.Mapping.{map_start, map_asked, map_used, map_next, map_end}
use native.Mathlib.Omega.{arith}
use Rattle.batch_map_rles.proofs.inner.map_rles.Goals as goal

pub loop-k-init : goal.loop-k-init
loop-k-init c = map_start c.requires

pub map_runs-used-requires : goal.map_runs-used-requires
map_runs-used-requires c = map_asked c.requires c.loop-k.invariant c.loop-k-test.true c.part_at.ensures c.part_at-in-loop-k.ensures

pub overflow_add-used : goal.overflow_add-used
overflow_add-used c =
    let used = map_used c.requires c.loop-k.invariant c.loop-k-test.true c.part_at.ensures c.part_at-in-loop-k.ensures c.map_runs-used.ensures in
    omega (arith, used, c.loop-k.invariant.laid.laying.long_ends, c.well_formed)

pub loop-k-preserved : goal.loop-k-preserved
loop-k-preserved c =
    map_next c.requires c.loop-k.invariant c.loop-k-test.true c.part_at.ensures c.part_at-in-loop-k.ensures c.map_runs-used.ensures

pub returns : goal.returns
returns c = map_end c.requires c.loop-k.invariant c.loop-k-test.false
