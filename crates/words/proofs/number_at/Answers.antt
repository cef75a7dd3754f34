use mathlib.Core.Path.{◌∙◌}
use Rattle.words.proofs.Laws.{number_past}
use Rattle.words.proofs.Signed.{number_read}
use Rattle.words.proofs.number_at.Goals as goal

pub returns-then-i-s : goal.returns-then-i-s
returns-then-i-s c = c.number.ensures ∙ number_read c.args.s.now c.args.i c.if-i-s.true c.number-arg-1.given

pub returns-else-i-s : goal.returns-else-i-s
returns-else-i-s c = number_past c.args.s.now c.args.i c.if-i-s.false
