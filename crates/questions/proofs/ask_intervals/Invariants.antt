use mathlib.Core.Path.{◌≡◌}
use Prim.Native.Nat.{◌≤◌}
use lib.ListN.{length, drop}
use Rattle.column.specs.Asking.{each_from}
use Rattle.column.specs.Questions.{interval_at, intervals}
use Rattle.questions.proofs.ask_intervals.Given as goal

abbrev pub invariant-loop-index : goal.invariant-loop-index
invariant-loop-index l = (l.index ≤ length l.starts) × (intervals l.starts l.ends ≡ each_from (interval_at l.ends) l.index (drop l.index l.starts))
