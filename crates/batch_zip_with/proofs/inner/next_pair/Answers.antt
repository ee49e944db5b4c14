use mathlib.Core.Bool.{Bool}
use mathlib.Core.Path.{◌≡◌, ap, sym, ◌∙◌}
use Rattle.batch.specs.declared.two.Joined.{Joined}
use Rattle.batch.proofs.Places.{passing-found}
use Rattle.batch_zip_with.proofs.Places.{at_is}
use Rattle.batch_zip_with.proofs.inner.next_pair.Goals as goal

pub returns-then-kept : goal.returns-then-kept
returns-then-kept c =
    let p = c.pair_at-kept.ensures in
    let h = rw c.places-places.ensures at c.loop-at-test.true in
    let e : c.pair_at-kept.result.0.at ≡ c.loop-at.at = ap (λ (j : Joined × Bool). j.0.at) p.0 ∙ at_is c.args.a_keys.now c.args.b_keys.now c.loop-at.at in
    let t = sym (ap (λ (j : Joined × Bool). j.1) p.0) ∙ c.if-kept.true in
    (passing-found _ _ _ c.loop-at.invariant.0 _ h (ap (λ (j : Joined × Bool). j.0) p.0) e t, rw e p.1)
