use native.Mathlib.Omega.{arith}
use Rattle.num.proofs.Bits.{back}
use Rattle.questions.proofs.Quarters.{quarters_next, quarters_end}
use Rattle.questions.proofs.quarters_rise.Goals as goal

pub loop-i-preserved : goal.loop-i-preserved
loop-i-preserved c =
    let ea = back _ c.a-1.given in
    let eb = back _ c.b-1.given in
    let ec = back _ c.c-1.given in
    let ed = back _ c.d-1.given in
    quarters_next _ _ c.loop-i.invariant c.loop-i-test.true ea eb ec ed c.if-a-first.false
    c.if-b-second.false c.if-c-third.false c.if-d-fourth.false

pub returns : goal.returns
returns c = λ t. quarters_end _ _ c.loop-i.invariant c.loop-i-test.false (omega arith)
