use Rattle.lister.proofs.NumeralLaws.{Valuing}
use Rattle.lister.proofs.numerals.value.Given as goal

abbrev pub invariant-loop-b : goal.invariant-loop-b
invariant-loop-b l = Valuing l.s l.n l.b-index
