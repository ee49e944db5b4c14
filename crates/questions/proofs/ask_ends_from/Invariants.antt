use mathlib.Core.Path.{◌≡◌}
use lib.ListN.{drop}
use Rattle.column.specs.Questions.{ends_from}
use Rattle.questions.proofs.ask_ends_from.Given as goal

abbrev pub invariant-loop-i : goal.invariant-loop-i
invariant-loop-i l = ends_from l.from l.first (drop l.from l.ends) ≡ ends_from l.i l.before (drop l.i l.ends)
