use mathlib.Core.Path.{refl}
use Rattle.printing.proofs.PageLaws.{wrote-plain, wrote-variable}
use Rattle.printing.proofs.PieceLaws.{new-gives}
use Rattle.printing.proofs.page.Page.new_record.Goals as goal

pub returns : goal.returns
returns c =
    new-gives c.args.p.now c.number_at.ensures (wrote-variable c.name.ensures) (wrote-plain c.add.ensures refl) c.part_from.ensures c.fields-rest.ensures
    (wrote-plain c.add-2.ensures refl)
