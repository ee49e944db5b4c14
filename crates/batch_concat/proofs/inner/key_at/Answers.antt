use borrow.Author.Tests.{eq-eqb, ne_eqb}
use Rattle.batch_concat.proofs.Places.{at_first, at_second, is_kept, is_not_kept}
use Rattle.batch_concat.proofs.inner.key_at.Goals as goal

pub returns-then-a-at : goal.returns-then-a-at
returns-then-a-at c = (
  is_kept (at_first _ _ _ c.if-at-a_keys.true c.find-a.ensures c.find_other-other.ensures.0) (eq-eqb _ _ c.if-a-at.true),
  c.find_other-other.ensures.1,
)

pub returns-then-at-a_keys : goal.returns-then-at-a_keys
returns-then-at-a_keys c = (
  is_not_kept (at_first _ _ _ c.if-at-a_keys.true c.find-a.ensures c.find_other-other.ensures.0) (ne_eqb _ _ c.if-a-at.false),
  c.find_other-other.ensures.1,
)

pub returns-then-both : goal.returns-then-both
returns-then-both c = (
  is_kept (at_second _ _ _ c.if-at-a_keys.false c.find_other-other.ensures.0 c.find-b.ensures c.both.ensures) c.if-both.true,
  c.find_other-other.ensures.1,
)

pub returns : goal.returns
returns c = (
  is_not_kept (at_second _ _ _ c.if-at-a_keys.false c.find_other-other.ensures.0 c.find-b.ensures c.both.ensures) c.if-both.false,
  c.find_other-other.ensures.1,
)
