use Rattle.tables.specs.Lending.{seen}
use Rattle.expressions.proofs.ConstraintLaws.{KeptLeft}
use Rattle.expressions.proofs.constraints.kept_at.Given as goal

abbrev pub invariant-loop-i : goal.invariant-loop-i
invariant-loop-i l = KeptLeft l.program (seen l.t) l.t.constraints.now l.n l.i l.all l.required
