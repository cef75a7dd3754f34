use Rattle.std.proofs.Common.{◌∙◌, sym, length}
use borrow.Author.Tests.{eqb-true, eqb-false}
use Rattle.lister.proofs.ReadingLaws.{budget-more, budget-unnamed, budget-number}
use Rattle.lister.proofs.reading.read_budget.Goals as goal

pub returns-then-not-is_empty : goal.returns-then-not-is_empty
returns-then-not-is_empty c = budget-more c.args.text.now c.after.ensures (eqb-false (length c.after.result.now) 0 (sym c.is_empty.ensures ∙ c.if-not-is_empty.true))

pub returns-then-not-begins_with : goal.returns-then-not-begins_with
returns-then-not-begins_with c =
    budget-unnamed c.args.text.now c.after.ensures (eqb-true (length c.after.result.now) 0 (sym c.is_empty.ensures ∙ c.if-not-is_empty.false)) c.up_to-line.ensures
    (sym c.begins_with.ensures ∙ c.if-not-begins_with.true)

pub returns : goal.returns
returns c =
    budget-number c.args.text.now c.after.ensures (eqb-true (length c.after.result.now) 0 (sym c.is_empty.ensures ∙ c.if-not-is_empty.false)) c.up_to-line.ensures
    (sym c.begins_with.ensures ∙ c.if-not-begins_with.false) c.part_from.ensures c.number.ensures
