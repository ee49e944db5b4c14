use mathlib.Core.Path.{◌≡◌, ◌∙◌}
use Prim.Native.Nat.{◌^◌, ◌-◌, min}
use native.Mathlib.Omega.{arith}
use borrow.Author.Tests.{le-leb, lt-leb}
use Rattle.column.specs.Questions.{room_at}
use Rattle.questions.proofs.ask_room.Goals as goal

pub returns-then-needed-given : goal.returns-then-needed-given
unfolding room_at
returns-then-needed-given c = simp (le-leb _ _ c.if-needed-given.true)

pub returns-else-needed-given : goal.returns-else-needed-given
unfolding room_at
returns-else-needed-given c =
    let n = c.args.needed in
    let e : min n (2 ^ 64 - 1) ≡ n = omega arith in
    c.no.ensures ∙ simp (lt-leb _ _ c.if-needed-given.false, e)
