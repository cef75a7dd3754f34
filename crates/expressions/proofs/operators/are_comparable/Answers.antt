use Rattle.rules.proofs.OperatorClauses.{comparable-is}
use Rattle.expressions.proofs.operators.are_comparable.Goals as goal

pub returns : goal.returns
returns c = rw (comparable-is c.args.a c.args.b, c.are_ints.ensures, c.are_bools.ensures, c.are_nils.ensures)
