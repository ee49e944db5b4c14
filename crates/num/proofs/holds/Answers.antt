use Rattle.std.proofs.Common.{to_z-of_z, eq-eqb, ne_eqb}
use Rattle.num.proofs.Bits.{bits_test}
use Rattle.num.proofs.holds.Goals as goal

pub returns-then-code-eq7 : goal.returns-then-code-eq7
returns-then-code-eq7 c = rw (eq-eqb c.args.code 7 c.if-code-eq7.true) (bits_test c.ranges.x c.ranges.y)

pub returns-else-code-eq7 : goal.returns-else-code-eq7
returns-else-code-eq7 c = rw (ne_eqb c.args.code 7 c.if-code-eq7.false, to_z-of_z c.ranges.x, to_z-of_z c.ranges.y)
