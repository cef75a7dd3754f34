use mathlib.Core.Path.{refl, ◌∙◌}
use Rattle.printing.proofs.TextLaws.{number_put}
use Rattle.printing.proofs.page.Page.add_number.Goals as goal

pub returns : goal.returns
returns c = rw (c.part_to.ensures ∙ number_put c.args.w c.ranges.w c.put_number-n.ensures refl) at c.add.ensures
