use borrow.Author.Rules.{rules}
use Rattle.std.proofs.lemmas.List.{map-id}
use Rattle.transform.proofs.Reversing.{reversed-none, reversed-filled}
use Rattle.transform.proofs.inner.reversed.Goals as goal

pub returns-then-ends-eq0 : goal.returns-then-ends-eq0
returns-then-ends-eq0 c = reversed-none _ _ _ _ c.if-ends-eq0.true

pub returns : goal.returns
returns c =
    let vs = c.args.values.now in
    let turned = c.turn.ensures (λ v. v) (λ i y h made. search rules) in
    reversed-filled c.args.ends.now vs c.requires.0 c.requires.1 c.reverse_ends.ensures (rw map-id at turned)
