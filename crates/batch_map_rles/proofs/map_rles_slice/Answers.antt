use mir.Facts.{to_z-of_z}
use Rattle.batch_map_rles.proofs.Mapping.{slice-each}
use Rattle.batch_map_rles.proofs.map_rles_slice.Goals as goal

pub returns : goal.returns
returns c =
    let fits = c.ranges in
    rw (to_z-of_z fits.start, to_z-of_z fits.end, slice-each) at c.map_each.ensures
