use Rattle.tables.specs.Lending.{seen}
use Rattle.expressions.proofs.PathLaws.{Finding}
use Rattle.expressions.proofs.values.find.Given as goal

abbrev pub invariant-loop-i : goal.invariant-loop-i
invariant-loop-i l = Finding (seen l.t) l.n l.x l.p l.i l.c
