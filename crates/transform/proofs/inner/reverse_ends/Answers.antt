use mathlib.Core.Path.{refl}
use native.Mathlib.Omega.{arith}
use borrow.Author.Rules.{rules}
use Rattle.transform.proofs.Reversing.{length_held, distance-fits, distance_held, ends-turned}
use Rattle.transform.proofs.inner.reverse_ends.Goals as goal

pub turn-requires-clause-made : goal.turn-requires-clause-made
turn-requires-clause-made c = λ i h. let fits = distance-fits c.args.ends.now c.requires.0 c.requires.1 (omega arith) i h in search rules

pub returns : goal.returns
returns c =
    let es = c.args.ends.now in
    let q = c.requires in
    let turned = c.turn.ensures _ (λ i y h made. distance_held es q.0 q.1 (omega arith) i h (search rules)) in
    ends-turned es q.0 q.1 _ q.2 turned refl (length_held es q.0 q.1 (omega arith))
