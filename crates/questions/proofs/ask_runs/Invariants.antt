use Prim.Native.Nat.{◌<◌, ◌^◌}
use mathlib.Core.Path.{◌≡◌}
use lib.ListN.{drop}
use Rattle.column.specs.Questions.{run_by_run}
use Rattle.questions.proofs.ask_runs.Given as goal

abbrev pub invariant-loop-index : goal.invariant-loop-index
invariant-loop-index l = (l.total < 2 ^ 63) × (run_by_run 0 0 l.runs ≡ run_by_run l.index l.total (drop l.index l.runs))
