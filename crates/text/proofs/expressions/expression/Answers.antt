use Rattle.text.specs.Reading.{expression}
use Rattle.text.proofs.expressions.expression.Goals as goal

pub returns : goal.returns
unfolding expression
returns c = let e = c.climb.ensures in record { expression = e.expression; ahead = e.ahead }
