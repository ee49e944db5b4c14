use mathlib.Core.Path.{◌≡◌}
use Prim.Native.Nat.{◌≤◌}
use lib.ListN.{length, drop}
use Rattle.column.specs.Questions.{rise, start_and_rise}
use Rattle.questions.proofs.start_and_rise.Given as goal

abbrev pub invariant-loop-offset : goal.invariant-loop-offset
invariant-loop-offset l = (l.offset-index ≤ length l.offsets) × (start_and_rise l.offsets ≡ rise l.before (drop l.offset-index l.offsets))
