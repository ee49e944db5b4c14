use native.Mathlib.Nat.{lt_of_le_of_lt}
use Rattle.batch_index.proofs.Lowest.{lowest-within}
use Rattle.batch_index.proofs.inner.wanted.share_positions.Goals as goal

pub overflow_cast-found : goal.overflow_cast-found
overflow_cast-found c =
    record {
      fits = rw c.position_of-at.ensures (lt_of_le_of_lt (lowest-within _ _)
          c.requires.0);
    }
