use mathlib.Core.List.{map}
use lib.IntN.{ℤ}
use Rattle.transform.specs.Workers.{Makes}
use Rattle.transform.proofs.Reversing.{Turning}
use Rattle.transform.proofs.inner.turn.Given as goal

abbrev pub invariant-loop-t : goal.invariant-loop-t
invariant-loop-t g l = (h : ℤ → ℤ) → Makes (goal.F-post g l.f) h l.entries → Turning (map h l.entries) l.initial.out l.out l.t
