use Rattle.batch_keys.proofs.Standing.{apart_found}
use Rattle.batch_keys.proofs.Ascending.{ascends_apart}
use Rattle.batch_keys.proofs.Doubles.{known-ascends, known_distinct, distinct_apart}
use Rattle.batch_keys.proofs.inner.find.Goals as goal

pub returns-then-stands_at : goal.returns-then-stands_at
returns-then-stands_at c =
    let ks = c.args.keys.now in
    apart_found ks _ _ (ascends_apart ks (known-ascends _ ks c.in-Ascending.is c.requires)) c.stands_at.ensures c.if-stands_at.true

pub returns-then-stands_at-2 : goal.returns-then-stands_at-2
returns-then-stands_at-2 c =
    apart_found _ _ _ (distinct_apart _ (known_distinct _ _ c.in-Distinct.is c.requires)) c.stands_at-in-Distinct.ensures
    c.if-stands_at-2.true
