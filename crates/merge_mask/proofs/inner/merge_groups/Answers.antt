use borrow.Author.Rules.{rules}
use mathlib.Core.Path.{refl}
use native.Mathlib.Omega.{arith}
use Rattle.merge_mask.proofs.Writing.{merging-none, started, merged-start, merged-more, merged-end}
use Rattle.merge_mask.proofs.Writing.{merged-whole}
use Rattle.merge_mask.proofs.inner.merge_groups.Goals as goal

pub returns-then-ends-eq0 : goal.returns-then-ends-eq0
returns-then-ends-eq0 g c = λ mask told. merging-none _ _ _ _ _ _ c.if-ends-eq0.true

pub loop-run-init : goal.loop-run-init
loop-run-init g c = record {
  few = search rules;
  kept = search rules;
  merged = λ mask told. merged-start c.requires.ready _ _ c.write_run-writer.ensures (omega arith);
}

pub loop-run-preserved : goal.loop-run-preserved
loop-run-preserved g c = record {
  few = search rules;
  kept = search rules;
  merged = λ mask told.
      merged-more (started c.requires.ready c.write_run-writer.ensures) _ _ (c.loop-run.invariant.merged mask told) (omega arith)
      c.write_run-writer-in-loop-run.ensures (told _ _ (omega arith) (omega arith) c.joins-joined.ensures) refl;
}

pub returns : goal.returns
returns g c = λ mask told.
    let d = c.write_run-writer.ensures in
    merged-whole c.requires.ready _ _ d (omega arith)
    (merged-end (started c.requires.ready d) _ _ (c.loop-run.invariant.merged mask told) c.loop-run-test.false)
