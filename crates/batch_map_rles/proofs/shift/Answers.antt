use mir.Facts.{to_z-of_z}
use Rattle.batch_map_rles.proofs.Mapping.{shift-each}
use Rattle.batch_map_rles.proofs.shift.Goals as goal

pub returns : goal.returns
returns c =
    let fits = c.ranges in
    rw (to_z-of_z fits.distance, to_z-of_z fits.fill, shift-each) at c.map_each.ensures
