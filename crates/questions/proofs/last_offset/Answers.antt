use mathlib.Core.Path.{ap, ◌∙◌}
use Rattle.std.specs.Prelude.{unwrap_or}
use Rattle.column.proofs.Lists.{offset_read}
use Rattle.questions.proofs.last_offset.Goals as goal

pub returns : goal.returns
returns c = c.unwrap_or.ensures ∙ ap (λ o. unwrap_or o 0) c.copied.ensures ∙ offset_read c.args.offsets.now c.last.ensures.value
