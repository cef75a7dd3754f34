use mathlib.Core.Path.{sym, ◌∙◌}
use Rattle.statements.proofs.SimpleLaws.{keep-again, keep-new}
use Rattle.statements.proofs.simple.keep_once.Goals as goal

-- src/simple.rt:131:9
pub returns-then-is_kept : goal.returns-then-is_kept
returns-then-is_kept c = keep-again c.args.constraints.now c.args.s c.args.position (sym c.is_kept.ensures ∙ c.if-is_kept.true)

-- src/simple.rt:127:1
pub returns : goal.returns
returns c = c.keep.ensures ∙ keep-new c.args.constraints.now c.args.s c.args.position (sym c.is_kept.ensures ∙ c.if-is_kept.false)
