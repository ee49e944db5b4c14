use Rattle.batch_map_rles.proofs.Mapping.{reversed-each}
use Rattle.batch_map_rles.proofs.reversed.Goals as goal

pub returns : goal.returns
returns c = rw reversed-each at c.map_each.ensures
