use Rattle.std.proofs.Common.{◌∙◌, sym, length}
use borrow.Author.Tests.{eqb-true, eqb-false}
use Rattle.lister.proofs.ReadingLaws.{line-unnamed, line-empty, line_row}
use Rattle.lister.proofs.reading.read_line.Goals as goal

pub returns-then-not-begins_with : goal.returns-then-not-begins_with
returns-then-not-begins_with c = line-unnamed c.args.name.now c.args.line.now (sym c.begins_with.ensures ∙ c.if-not-begins_with.true)

pub returns-then-is_empty : goal.returns-then-is_empty
returns-then-is_empty c =
    line-empty c.args.name.now c.args.line.now (sym c.begins_with.ensures ∙ c.if-not-begins_with.false) c.part_from-list.ensures
    (eqb-true (length c.part_from-list.result.now) 0 (sym c.is_empty.ensures ∙ c.if-is_empty.true))

pub returns : goal.returns
returns c =
    line_row c.args.name.now c.args.line.now (sym c.begins_with.ensures ∙ c.if-not-begins_with.false) c.part_from-list.ensures
    (eqb-false (length c.part_from-list.result.now) 0 (sym c.is_empty.ensures ∙ c.if-is_empty.false)) c.read_row.ensures
