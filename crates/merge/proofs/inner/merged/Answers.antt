use native.Mathlib.Omega.{arith}
use Rattle.num.proofs.Bits.{back}
use Rattle.merge.proofs.Appended.{merged-none, merged_some, merged_appendable, merged_at, merged-end}
use Rattle.merge.proofs.inner.merged.Goals as goal

pub returns-then-length-le0 : goal.returns-then-length-le0
returns-then-length-le0 c = merged-none _ _ _ _ c.requires c.length.ensures c.length.type_inv c.if-length-le0.true

pub bounds-values-0 : goal.bounds-values-0
bounds-values-0 c = omega (arith, merged_some _ _ _ _ c.requires c.length.ensures c.length.type_inv c.if-length-le0.false)

pub append_merged-end-requires : goal.append_merged-end-requires
append_merged-end-requires c = merged_appendable _ _ _ _ c.requires c.length.ensures c.length.type_inv (back _ (omega arith))

pub overflow_add-result : goal.overflow_add-result
overflow_add-result c =
    omega (arith, merged_at _ _ _ _ c.requires c.length.ensures c.length.type_inv (back _ (omega arith)) c.append_merged-end.ensures, c.well_formed)

pub returns : goal.returns
returns c =
    let some = merged_some _ _ _ _ c.requires c.length.ensures c.length.type_inv c.if-length-le0.false in
    merged-end _ _ _ _ c.requires c.length.ensures c.length.type_inv (back _ (omega arith)) c.append_merged-end.ensures some
