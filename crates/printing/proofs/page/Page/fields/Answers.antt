use mathlib.Core.Path.{refl}
use Rattle.printing.specs.Printing.{fields_text}
use Rattle.printing.proofs.RowLaws.{row-starts, row-goes-on, row_ends}
use Rattle.printing.proofs.page.Page.fields.Goals as goal

pub loop-i-init : goal.loop-i-init
unfolding fields_text
loop-i-init c = rw c.number_at-n.ensures (row-starts c.part_from-rest.ensures refl)

pub loop-i-preserved : goal.loop-i-preserved
loop-i-preserved c =
    row-goes-on c.loop-i.invariant c.loop-i-test.true (rw c.between.ensures at c.add.ensures) refl c.field-rest.ensures

pub returns : goal.returns
returns c = row_ends c.loop-i.invariant c.loop-i-test.false
