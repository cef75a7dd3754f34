use mathlib.Core.Path.{◌∙◌}
use Rattle.words.proofs.Laws.{cleared-all}
use Rattle.tables.proofs.cells.make_fresh.Goals as goal

pub returns : goal.returns
returns c = c.clear.ensures ∙ cleared-all c.args.table.now
