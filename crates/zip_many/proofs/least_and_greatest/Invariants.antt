use Rattle.zip_many.proofs.Ranging.{Ranging}
use Rattle.zip_many.proofs.least_and_greatest.Given as goal

abbrev pub invariant-loop-c : goal.invariant-loop-c
invariant-loop-c l = Ranging l.offsets l.ends l.least l.greatest l.c
