use mathlib.Core.Path.{sym, ◌∙◌}
use Rattle.program.proofs.MarkingLaws.{always-past, always-marked}
use Rattle.program.proofs.marking.is_always_marked.Goals as goal

pub returns-then-program-at : goal.returns-then-program-at
returns-then-program-at c = always-past c.args.program.now c.args.s c.args.at c.if-program-at.true

pub returns-then-is_marked : goal.returns-then-is_marked
returns-then-is_marked c = rw (always-marked c.args.program.now c.args.s c.args.at c.requires c.if-program-at.false, sym c.is_marked.ensures ∙ c.if-is_marked.true, c.number_at.ensures, c.always_of.ensures)

pub returns-else-is_marked : goal.returns-else-is_marked
returns-else-is_marked c = rw (always-marked c.args.program.now c.args.s c.args.at c.requires c.if-program-at.false, sym c.is_marked.ensures ∙ c.if-is_marked.false) c.if-is_marked.false
