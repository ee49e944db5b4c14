use mir.Facts.{to_z-of_z}
use Rattle.from_runs.proofs.Repeated.{repeat-one}
use Rattle.from_runs.proofs.repeat.Goals as goal

pub returns : goal.returns
returns c =
    let fits = c.ranges in
    rw (to_z-of_z fits.length, to_z-of_z fits.value, repeat-one _ _ _ fits.length) at c.from_runs.ensures
