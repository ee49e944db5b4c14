use mathlib.Core.Path.{ap, ◌∙◌}
use lib.IntN.{pos}
use Rattle.std.specs.Prelude.{unwrap_or}
use Rattle.num.proofs.Bits.{back}
use Rattle.column.proofs.Sequences.{last_read}
use Rattle.column.proofs.sequence.length.Goals as goal

pub returns : goal.returns
returns c =
    back _ c.unwrap_or.type_inv ∙ c.unwrap_or.ensures
    ∙ ap (λ o. unwrap_or o (pos 0)) c.copied.ensures
    ∙ last_read c.args.ends.now c.last.ensures.value
