use mathlib.Core.Path.{◌∙◌}
use native.Mathlib.Omega.{arith}
use Rattle.num.proofs.Bits.{back}
use Rattle.transform.proofs.JoiningTwo.{two_none, two-first, after_first, two-second, two-within, two-end}
use Rattle.transform.proofs.inner.concat_two.Goals as goal

pub returns-then-a_ends-b_ends-eq0 : goal.returns-then-a_ends-b_ends-eq0
returns-then-a_ends-b_ends-eq0 c = two_none c.requires c.if-a_ends-b_ends-eq0.true

pub append_merged-after_first-requires : goal.append_merged-after_first-requires
append_merged-after_first-requires c = two-first c.requires (back _ c.first_value-first.type_inv ∙ c.first_value-first.ensures)

pub append_merged-last-requires : goal.append_merged-last-requires
append_merged-last-requires c =
    let p = c.requires in
    two-second p (after_first p (back _ c.first_value-first.type_inv ∙ c.first_value-first.ensures) c.append_merged-after_first.ensures)
    c.to_nat-length.ensures (back _ c.length.type_inv ∙ c.length.ensures)

pub overflow_add-result : goal.overflow_add-result
overflow_add-result c =
    let p = c.requires in
    let first = after_first p (back _ c.first_value-first.type_inv ∙ c.first_value-first.ensures) c.append_merged-after_first.ensures in
    let within = two-within p first c.to_nat-length.ensures (back _ c.length.type_inv ∙ c.length.ensures) c.append_merged-last.ensures
    c.if-a_ends-b_ends-eq0.false in
    omega (arith, within, c.well_formed)

pub returns : goal.returns
returns c =
    let p = c.requires in
    two-end p (after_first p (back _ c.first_value-first.type_inv ∙ c.first_value-first.ensures) c.append_merged-after_first.ensures)
    c.to_nat-length.ensures (back _ c.length.type_inv ∙ c.length.ensures) c.append_merged-last.ensures
    c.if-a_ends-b_ends-eq0.false
