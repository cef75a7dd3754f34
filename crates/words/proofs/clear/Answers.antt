use mathlib.Core.Path.{◌∙◌}
use Rattle.words.proofs.Laws.{cleared-is}
use Rattle.words.proofs.clear.Goals as goal

pub returns : goal.returns
returns c = c.copy.ensures ∙ cleared-is c.args.at c.args.n c.args.s.now
