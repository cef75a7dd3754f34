use mathlib.Core.Path.{◌∙◌}
use Rattle.printing.proofs.TextLaws.{line-is}
use Rattle.printing.proofs.page.Page.add_line.Goals as goal

pub returns : goal.returns
returns c = rw (c.part_to.ensures ∙ line-is c.args.d c.less.ensures) at c.add.ensures
