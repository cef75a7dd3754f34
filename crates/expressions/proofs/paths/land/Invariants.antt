use Rattle.tables.specs.Lending.{seen}
use Rattle.expressions.proofs.PathLaws.{Landing}
use Rattle.expressions.proofs.paths.land.Given as goal

abbrev pub invariant-loop-i : goal.invariant-loop-i
invariant-loop-i l = Landing (seen l.t) l.n l.l l.p l.i l.at
