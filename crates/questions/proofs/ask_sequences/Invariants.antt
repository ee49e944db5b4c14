use mathlib.Core.Path.{◌≡◌}
use Rattle.column.specs.Asking.{each_from}
use Rattle.column.specs.Questions.{sequence_at, sequences_valid}
use Rattle.column.proofs.Parts.{parts_at}
use Rattle.questions.proofs.ask_sequences.Given as goal

abbrev pub invariant-loop-k : goal.invariant-loop-k
invariant-loop-k l = sequences_valid l.offsets l.ends ≡ each_from sequence_at l.k (parts_at l.k l.offsets l.ends)
