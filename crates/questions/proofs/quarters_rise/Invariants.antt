use Rattle.questions.proofs.Quarters.{Quarters}
use Rattle.questions.proofs.quarters_rise.Given as goal

abbrev pub invariant-loop-i : goal.invariant-loop-i
invariant-loop-i l = Quarters l.ends l.quarter l.i l.first l.second l.third l.fourth
