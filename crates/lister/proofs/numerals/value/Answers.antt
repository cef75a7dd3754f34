use Rattle.lister.proofs.NumeralLaws.{valuing-passes}
use Rattle.lister.proofs.numerals.value.Goals as goal

pub returns-then-n-gt-GREATEST : goal.returns-then-n-gt-GREATEST
returns-then-n-gt-GREATEST c = let e = c.in_ok-n.ensures in valuing-passes c.loop-b.invariant c.loop-b-test.true e.0 e.1 c.if-n-gt-GREATEST.true
