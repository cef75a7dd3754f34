use mathlib.Core.Path.{refl}
use Rattle.printing.proofs.PageLaws.{wrote-plain, wrote-label}
use Rattle.printing.proofs.PieceLaws.{field-gives}
use Rattle.printing.proofs.page.Page.field.Goals as goal

pub returns : goal.returns
returns c =
    field-gives c.args.p.now (wrote-label (rw c.label_at.ensures at c.name.ensures))
    (wrote-plain c.add.ensures refl) c.part_from-q.ensures c.expression.ensures
