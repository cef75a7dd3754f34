use mathlib.Core.Path.{◌∙◌}
use Rattle.std.proofs.lemmas.Result.{err_from_is_err_and}
use Rattle.program.proofs.LengthLaws.{after-part, uses-keeps, expression-uses}
use Rattle.program.proofs.BlockLaws.{fields-start, label-high, label-twice, field-stops, field-goes-on, fields-end}
use Rattle.program.proofs.blocks.read_fields.Goals as goal

pub loop-init : goal.loop-init
loop-init c = fields-start

pub returns-then-label-ge-LABELS : goal.returns-then-label-ge-LABELS
returns-then-label-ge-LABELS c = c.unfit.ensures ∙ label-high c.loop.invariant c.loop-test.true c.part_last-q.ensures (rw c.number_at-label.ensures at c.if-label-ge-LABELS.true)

pub returns-then-seen-label : goal.returns-then-seen-label
returns-then-seen-label c = c.unfit-then-seen-label.ensures ∙ label-twice c.loop.invariant c.loop-test.true c.part_last-q.ensures (rw c.number_at-label.ensures at c.if-label-ge-LABELS.false) (rw c.number_at-label.ensures at c.if-seen-label.true)

pub returns-in_err-left : goal.returns-in_err-left
returns-in_err-left c =
    let e = err_from_is_err_and c.from_residual.result c.from_residual.ensures.1 in
    rw (e.1, e.2) (field-stops c.loop.invariant c.loop-test.true c.part_last-q.ensures (rw c.number_at-label.ensures at c.if-label-ge-LABELS.false) (rw c.number_at-label.ensures at c.if-seen-label.false)
    (rw c.part_from.ensures at c.in_err-left.ensures))

pub loop-preserved : goal.loop-preserved
loop-preserved c =
    rw c.number_at-label.ensures (field-goes-on c.loop.invariant c.loop-test.true c.part_last-q.ensures (rw c.number_at-label.ensures at c.if-label-ge-LABELS.false) (rw c.number_at-label.ensures at c.if-seen-label.false)
    (rw c.part_from.ensures at c.in_ok-left.ensures) (after-part _ (uses-keeps (expression-uses 16 _ _))))

pub returns : goal.returns
returns c = fields-end c.loop.invariant c.loop-test.false
