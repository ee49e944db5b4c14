use lib.ListN.{get_or}
use lib.IntN.{pos}
use Rattle.num.proofs.Bits.{end_cast, end_nat}
use Rattle.column.proofs.Naturals.{to_nat-below}
use Rattle.column.proofs.Ends.{natural_end}
use Rattle.plan.proofs.Step.{ahead-some, end-some}
use Rattle.plan.proofs.inner.end_at.Goals as goal

pub overflow_cast-result : goal.overflow_cast-result
overflow_cast-result c = end_cast (natural_end c.args.ends.now c.args.index c.requires c.if-index-ends.true) c.end-1.given

pub returns-then-index-ends : goal.returns-then-index-ends
returns-then-index-ends c =
    let es = c.args.ends.now in
    let i = c.args.index in
    let inside = c.if-index-ends.true in
    let end = end_nat (natural_end es i c.requires inside) c.end-1.given in
    end-some _ (ahead-some es i inside) end (to_nat-below (get_or es i (pos 0)) (record { sfits = c.end-1.given }))
