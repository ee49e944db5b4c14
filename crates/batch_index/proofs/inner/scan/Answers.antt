use Rattle.batch_index.proofs.Lowest.{next-lowest}
use Rattle.batch_index.proofs.inner.scan.Goals as goal

pub returns : goal.returns
returns c = next-lowest _ _ c.scan_from.ensures
