use mathlib.Core.Path.{sym, ◌∙◌}
use native.Mathlib.Omega.{arith}
use mir.Facts.{to_z-of_z}
use borrow.Author.Rules.{rules}
use Rattle.reduce.proofs.Walking.{walked_start, first_fits, first-held, second_fits, second-held, pair_next}
use Rattle.reduce.proofs.inner.sum_pairs.Goals as goal

pub loop-pair-init : goal.loop-pair-init
loop-pair-init c = walked_start _ _ _ _ _ _ tt (rw (to_z-of_z c.ranges.start) c.requires.1)

pub overflow_sub-first : goal.overflow_sub-first
overflow_sub-first c = first_fits c.loop-pair.invariant c.requires.0 (omega arith) (search rules) (search rules) (sym c.both_rise.ensures ∙ c.if-not-both_rise.false)

pub add_weight-one-requires : goal.add_weight-one-requires
add_weight-one-requires c = first-held c.loop-pair.invariant c.requires.0 (omega arith) (search rules) (search rules) (sym c.both_rise.ensures ∙ c.if-not-both_rise.false)

pub overflow_sub-second : goal.overflow_sub-second
overflow_sub-second c =
    second_fits c.loop-pair.invariant c.requires.0 (omega arith) (search rules) (search rules) (sym c.both_rise.ensures ∙ c.if-not-both_rise.false) (search rules)
    c.add_weight-one.type_inv c.add_weight-one.ensures

pub add_weight-total-requires : goal.add_weight-total-requires
add_weight-total-requires c =
    second-held c.loop-pair.invariant c.requires.0 (omega arith) (search rules) (search rules) (sym c.both_rise.ensures ∙ c.if-not-both_rise.false) (search rules)
    c.add_weight-one.type_inv c.add_weight-one.ensures

pub loop-pair-preserved : goal.loop-pair-preserved
loop-pair-preserved c =
    pair_next c.loop-pair.invariant c.requires.0 (omega arith) (search rules) (search rules) (sym c.both_rise.ensures ∙ c.if-not-both_rise.false) (search rules)
    c.add_weight-one.type_inv c.add_weight-one.ensures
    (search rules) c.add_weight-total.type_inv c.add_weight-total.ensures (omega arith)
