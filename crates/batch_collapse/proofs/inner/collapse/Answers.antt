use mathlib.Core.Path.{refl}
use native.Mathlib.Omega.{arith}
use lib.ListN.{length-set}
use mir.Facts.{to_z-of_z}
use Rattle.batch_collapse.proofs.Groups.{group_few}
use Rattle.batch_collapse.proofs.Collapsing.{collapsing-start, collapsing-fold, collapsing-used, collapsing-next, collapsing-end}
use Rattle.batch_index.proofs.Links.{lent_same}
use borrow.Author.Rules.{rules}
use Rattle.batch_collapse.proofs.inner.collapse.Goals as goal

pub loop-group-init : goal.loop-group-init
loop-group-init c =
    let e = c.next_group-group.ensures in (
      search rules,
      search rules,
      search rules,
      collapsing-start _ _ _ _ _ _ _ c.requires.0 _ _ _ _ _ _ c.requires.1 e.0,
      e.1,
      lent_same c.requires.2 (search rules) (search rules) (search rules),
    )

pub offset_bounds-out_keys-n : goal.offset_bounds-out_keys-n
offset_bounds-out_keys-n c =
    omega (
      arith,
      group_few _ c.loop-group.invariant.3.groups c.loop-group-test.true,
      c.requires.0.renamed,
      c.well_formed,
    )

pub bounds-out_keys-n : goal.bounds-out_keys-n
bounds-out_keys-n c =
    omega (arith, group_few _ c.loop-group.invariant.3.groups c.loop-group-test.true, c.requires.0.renamed, c.requires.1.room_keys, c.loop-group.invariant.3.laying.keys.long)

pub collapse_group-count-requires : goal.collapse_group-count-requires
collapse_group-count-requires c =
    let inv = c.loop-group.invariant in (
      c.requires.0,
      collapsing-fold _ _ _ _ _ _ _ c.requires.0 _ _ _ _ _ _ c.requires.1 inv.3
          c.loop-group-test.true,
      record { chains = inv.4.linked.chains; listed = inv.4.listed },
    )

pub overflow_add-used : goal.overflow_add-used
overflow_add-used c =
    omega (
      arith,
      collapsing-used _ _ _ _ _ _ _ c.requires.0 _ _ _ _ _ _ c.requires.1
          c.loop-group.invariant.3
          c.loop-group-test.true
          c.collapse_group-count.ensures,
      c.well_formed,
    )

pub overflow_add-n : goal.overflow_add-n
overflow_add-n c =
    omega (
      arith,
      group_few _ c.loop-group.invariant.3.groups c.loop-group-test.true,
      c.requires.0.renamed,
      c.well_formed,
    )

pub offset_bounds-out_offsets-n : goal.offset_bounds-out_offsets-n
offset_bounds-out_offsets-n c =
    omega (
      arith,
      group_few _ c.loop-group.invariant.3.groups c.loop-group-test.true,
      c.requires.0.renamed,
      c.well_formed,
    )

pub bounds-out_offsets-n : goal.bounds-out_offsets-n
bounds-out_offsets-n c =
    omega (
      arith,
      group_few _ c.loop-group.invariant.3.groups c.loop-group-test.true,
      c.requires.0.renamed,
      c.requires.1.room_offsets,
      c.loop-group.invariant.3.laying.laying.long_offsets,
      length-set c.args.out_offsets.now 0 0,
    )

pub loop-group-preserved : goal.loop-group-preserved
loop-group-preserved c =
    let e = c.next_group-group-in-loop-group.ensures in (
      search rules,
      search rules,
      search rules,
      collapsing-next _ _ _ _ _ _ _ c.requires.0 _ _ _ _ _ _ c.requires.1
          c.loop-group.invariant.3 c.loop-group-test.true c.collapse_group-count.ensures refl e.0,
      e.1,
      lent_same c.loop-group.invariant.5 (search rules) (search rules) (search rules),
    )

pub returns : goal.returns
returns c =
    rw (to_z-of_z c.ranges.fill) at (collapsing-end _ _ _ _ _ _ _ c.requires.0 _ _ _ _ _ _ c.requires.1 c.loop-group.invariant.3
    c.loop-group-test.false)
