use borrow.Author.Rules.{rules}
use mathlib.Core.Path.{◌∙◌}
use Rattle.std.proofs.lemmas.Result.{err_from_is_err_and}
use Rattle.words.proofs.Signed.{back32}
use Rattle.statements.proofs.FieldLaws.{fields-start, fields-label, fields-stop, fields-go-on, fields-end}
use Rattle.statements.proofs.simple.field_words.Goals as goal

pub loop-i-init : goal.loop-i-init
loop-i-init c = fields-start

pub shape_of-fields-then-label-ge-LABELS : goal.shape_of-fields-then-label-ge-LABELS
shape_of-fields-then-label-ge-LABELS c = c.loop-i.invariant.long

pub returns-then-label-ge-LABELS : goal.returns-then-label-ge-LABELS
returns-then-label-ge-LABELS c = rw c.at.ensures (fields-label c.loop-i.invariant c.loop-i-test.true c.part_last-q.ensures (rw c.number_at-label.ensures at c.if-label-ge-LABELS.true))

pub shape_of-fields-in_err-v : goal.shape_of-fields-in_err-v
shape_of-fields-in_err-v c = c.loop-i.invariant.long

pub returns-in_err-v : goal.returns-in_err-v
returns-in_err-v c =
    let e = err_from_is_err_and c.from_residual.result c.from_residual.ensures.1 in
    rw (e.1, e.2) (fields-stop c.loop-i.invariant c.loop-i-test.true c.part_last-q.ensures c.number_at-label.ensures c.if-label-ge-LABELS.false c.part_from.ensures c.find_value.ensures c.in_err-v.was)

pub loop-i-preserved : goal.loop-i-preserved
loop-i-preserved c =
    fields-go-on c.loop-i.invariant c.loop-i-test.true c.part_last-q.ensures c.number_at-label.ensures c.if-label-ge-LABELS.false c.part_from.ensures c.find_value.ensures c.in_ok-v.was c.requires.n_le_most_fields c.requires.fields_words_in_bounds c.cell_of-c.ensures
    (back32 _ (record { sfits = c.word_of.type_inv }) ∙ c.word_of.ensures) (back32 _ (search rules)) (back32 _ (search rules)) c.store.ensures c.store-in-loop-i.ensures c.store-in-loop-i-2.ensures

pub shape_of-fields : goal.shape_of-fields
shape_of-fields c = c.loop-i.invariant.long

pub returns : goal.returns
returns c = fields-end c.loop-i.invariant c.loop-i-test.false
