use mathlib.Core.Path.{sym, ◌∙◌}
use Rattle.statements.proofs.SimpleLaws.{room-kept, room-left}
use Rattle.statements.proofs.simple.has_room.Goals as goal

-- src/simple.rt:121:9
pub returns-then-is_kept : goal.returns-then-is_kept
returns-then-is_kept c = room-kept c.args.constraints.now c.args.s c.args.position (sym c.is_kept.ensures ∙ c.if-is_kept.true)

-- src/simple.rt:117:1
pub returns : goal.returns
returns c = rw (c.kept_count.ensures, c.most_kept.ensures) (room-left c.args.constraints.now c.args.s c.args.position (sym c.is_kept.ensures ∙ c.if-is_kept.false))
