use mathlib.Core.Path.{refl}
use Rattle.std.proofs.Common.{rules}
use Rattle.words.proofs.Signed.{back32}
use Rattle.sheet.proofs.AnswerLaws.{answer-reads, answer-unfit}
use Rattle.sheet.proofs.answer_text.Goals as goal

pub returns-in-Err : goal.returns-in-Err
returns-in-Err c = answer-unfit c.args.text.now (rw c.in-Err.is at c.read_input.ensures) c.write_unfit.ensures

pub returns-in-Ok : goal.returns-in-Ok
returns-in-Ok c = answer-reads c.args.text.now refl refl (rw c.in-Ok.is at c.read_input.ensures) c.part_to.ensures c.part_to-in-Ok.ensures (rw (back32 c.in-Ok.input.budget (search rules)) at c.run_fresh.ensures)
