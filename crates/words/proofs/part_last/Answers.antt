use mathlib.Core.Path.{◌∙◌}
use Rattle.words.proofs.part_last.Goals as goal

pub returns : goal.returns
returns c = c.part_from.ensures ∙ rw c.less.ensures
