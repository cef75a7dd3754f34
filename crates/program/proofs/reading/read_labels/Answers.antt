use mathlib.Core.Path.{◌∙◌}
use Rattle.program.proofs.ReadLaws.{labelling-starts, labelling-stops, labelling-goes-on, labelling-ends}
use Rattle.program.proofs.reading.read_labels.Goals as goal

pub loop-i-init : goal.loop-i-init
loop-i-init c = labelling-starts

pub returns-then-number_at-ge-LABELS : goal.returns-then-number_at-ge-LABELS
returns-then-number_at-ge-LABELS c = c.unfit.ensures ∙ rw c.part_from.ensures (labelling-stops c.loop-i.invariant c.loop-i-test.true (rw c.number_at.ensures at c.if-number_at-ge-LABELS.true))

pub loop-i-preserved : goal.loop-i-preserved
loop-i-preserved c = labelling-goes-on c.loop-i.invariant c.loop-i-test.true (rw c.number_at.ensures at c.if-number_at-ge-LABELS.false)

pub returns : goal.returns
returns c = rw c.less.ensures (labelling-ends c.loop-i.invariant c.loop-i-test.false)
