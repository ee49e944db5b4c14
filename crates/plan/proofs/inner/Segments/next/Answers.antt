use mir.Syntax.{w64}
use mir.Facts.{to_z_pos}
use Rattle.plan.proofs.Step.{least_fits, walks}
use Rattle.plan.proofs.inner.Segments.next.Goals as goal

pub returns : goal.returns
returns c =
    let f = least_fits c.requires.standing c.requires.unspent in
    walks c.requires.standing c.requires.unspent _ _ c.end_at-next_a.ensures c.end_at-next_b.ensures
    (rw c.smaller_count-end.ensures (to_z_pos w64 f)) (rw (c.stepped.ensures, c.stepped-2.ensures))
