use Rattle.words.proofs.Signed.{back32}
use mathlib.Core.Path.{sym, ap, ◌∙◌}
use lib.Dec.{leb}
use mathlib.Core.Path.{sym, ◌∙◌}
use Rattle.rules.proofs.StartClauses.{budget-is}
use Rattle.run.proofs.start.budget_fits.Goals as goal

pub returns : goal.returns
returns c = ap (λ n. leb n 1000000) (rw (back32 c.args.budget c.ranges.budget) at c.number.ensures) ∙ sym (budget-is c.args.budget)
