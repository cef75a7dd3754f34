use mathlib.Core.Path.{sym, ◌∙◌}
use Rattle.printing.proofs.WholeLaws.{write-sized, write-unfit, write-printed}
use Rattle.printing.proofs.whole.write.Goals as goal

pub returns-then-names-ne-NAME_WORDS : goal.returns-then-names-ne-NAME_WORDS
returns-then-names-ne-NAME_WORDS c = write-sized _ _ _ _ c.if-names-ne-NAME_WORDS.true c.answer_with.ensures

pub returns-in-Err : goal.returns-in-Err
returns-in-Err c = write-unfit _ _ _ _ c.if-names-ne-NAME_WORDS.false (sym c.in-Err.is ∙ c.read_program.ensures) c.answer_with-in-Err.ensures

pub returns-in-Ok : goal.returns-in-Ok
returns-in-Ok c = write-printed _ _ _ _ c.if-names-ne-NAME_WORDS.false (sym c.in-Ok.is ∙ c.read_program.ensures) c.print.ensures
