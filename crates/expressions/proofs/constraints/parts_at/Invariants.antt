use Rattle.tables.specs.Lending.{seen}
use Rattle.expressions.proofs.ConstraintLaws.{PartsLeft}
use Rattle.expressions.proofs.constraints.parts_at.Given as goal

abbrev pub invariant-loop-i : goal.invariant-loop-i
invariant-loop-i l = PartsLeft (seen l.t) l.m l.p l.i l.left l.all l.required
