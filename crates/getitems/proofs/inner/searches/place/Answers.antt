use Rattle.getitems.proofs.Searches.{place_is}
use Rattle.getitems.proofs.inner.searches.place.Goals as goal

pub returns : goal.returns
returns c =
    place_is _ _ c.ranges.position c.to_nat.ensures c.length.type_inv c.length.ensures c.to_nat-length.ensures c.smaller_count.ensures
    c.saturating_sub.ensures
