use mathlib.Core.Path.{refl}
use native.Mathlib.Omega.{arith}
use Rattle.batch_index.proofs.Links.{entry_next, entry-last, next-listed, last-listed}
use Rattle.batch_index.proofs.inner.links.next_entry.Goals as goal

pub returns-then-entry-lt-CAPACITY : goal.returns-then-entry-lt-CAPACITY
returns-then-entry-lt-CAPACITY c =
    let x = c.widened-entry.ensures in
    let pre = c.requires in (
      next-listed pre.0 pre.1 pre.2 x c.if-entry-lt-CAPACITY.true refl c.widened.ensures,
      entry_next pre.0 pre.1 pre.2 x
          c.if-entry-lt-CAPACITY.true c.widened.ensures,
    )

pub returns : goal.returns
returns c =
    let pre = c.requires in
    (last-listed (omega arith), entry-last pre.0 pre.1 pre.2 c.widened-entry.ensures c.if-entry-lt-CAPACITY.false)
