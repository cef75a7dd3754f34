use Rattle.tokens.proofs.NumberLaws.{Counting}
use Rattle.tokens.proofs.numbers.digits.Given as goal

abbrev pub invariant-loop-b : goal.invariant-loop-b
invariant-loop-b l = Counting l.s l.n l.b-index
