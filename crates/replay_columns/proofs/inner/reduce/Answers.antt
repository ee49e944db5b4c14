use Rattle.replay_columns.proofs.Floats.{no_nans}
use Rattle.replay_columns.proofs.inner.reduce.Goals as goal

pub float_to_bits-mean : goal.float_to_bits-mean
float_to_bits-mean c = (no_nans c.rl_reduce-answer.ensures).0

pub float_to_bits-variance : goal.float_to_bits-variance
float_to_bits-variance c = (no_nans c.rl_reduce-answer.ensures).1
