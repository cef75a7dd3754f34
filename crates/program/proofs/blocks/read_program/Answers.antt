use Rattle.program.proofs.BlockLaws.{program-long, program-unfit, program-reads, program-extra}
use Rattle.program.proofs.blocks.read_program.Goals.{in-Ok, in-Ok-2}
use Rattle.program.proofs.blocks.read_program.Goals as goal

pub returns-then-p-gt-MOST_WORDS : goal.returns-then-p-gt-MOST_WORDS
returns-then-p-gt-MOST_WORDS c = program-long c.args.p.now c.if-p-gt-MOST_WORDS.true

pub returns-in-Ok-eq0 : goal.returns-in-Ok-eq0
returns-in-Ok-eq0 c = program-reads c.args.p.now c.if-p-gt-MOST_WORDS.false (rw c.in-Ok-eq0.field-0-test at c.in-Ok-eq0.ensures)

pub returns-in-Ok : goal.returns-in-Ok
returns-in-Ok c = elim c.in-Ok-1.branch [
  | in-Ok w ↦ rw c.less.ensures (program-extra c.args.p.now c.if-p-gt-MOST_WORDS.false (rw w.left-is w.in-Ok.ensures) (rw w.left-is w.in-Ok.left-test.1))
  | in-Ok-2 w ↦ rw (c.less.ensures, w.left-is) (program-unfit c.args.p.now c.if-p-gt-MOST_WORDS.false w.in-Ok.ensures)
]
