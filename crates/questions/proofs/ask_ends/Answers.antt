use Rattle.column.specs.Questions.{ends_valid}
use Rattle.questions.proofs.ask_ends.Goals as goal

pub returns-else-quarters_rise : goal.returns-else-quarters_rise
unfolding ends_valid
returns-else-quarters_rise c = c.ask_ends_from-else-quarters_rise.ensures
