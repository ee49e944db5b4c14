use mir.Facts.{to_z-of_z}
use mir.Syntax.{w64}
use mir.Val.{SFits}
use Rattle.reduce.proofs.Intervals.{slice-window, slice-finite, slice_reduced}
use borrow.Author.Rules.{rules}
use Rattle.reduce.proofs.inner.reduce_slice.Goals as goal

pub reduce_window-reduced-requires : goal.reduce_window-reduced-requires
reduce_window-reduced-requires c =
    let end_fits : SFits w64 c.touched-window.result.end = search rules in
    slice-window c.args.ends.now c.args.values.now c.requires.0 c.requires.1 _ _ c.touched-window.ensures end_fits.sfits

pub returns : goal.returns
returns c =
    let r = slice_reduced c.args.ends.now c.args.values.now c.requires.0 c.requires.1 _ _ c.touched-window.ensures c.reduce_window-reduced.ensures in (
      rw (to_z-of_z c.ranges.start, to_z-of_z c.ranges.stop, to_z-of_z c.ranges.ddof) at r,
      slice-finite c.args.ends.now c.args.values.now c.requires.0 c.requires.1 _ _ c.touched-window.ensures c.reduce_window-reduced.ensures,
    )
