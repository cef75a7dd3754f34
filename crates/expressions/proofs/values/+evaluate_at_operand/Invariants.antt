use mathlib.Core.Bool.{cond}
use Prim.Native.Nat.{◌+◌}
use lib.Dec.{eqb}
use Rattle.words.specs.Words.{number_at}
use Rattle.tables.specs.Lending.{seen}
use Rattle.expressions.proofs.EvaluateLaws.{Walking, to_come}
use Rattle.expressions.proofs.values.+evaluate_at_operand.Given as goal

abbrev pub decreases-evaluate_at : goal.decreases-evaluate_at
decreases-evaluate_at l = l.d + l.d + 1

abbrev pub decreases-operand : goal.decreases-operand
decreases-operand l = cond (eqb (number_at l.p.now 0) 25) (l.d + l.d + 2) 0

abbrev pub invariant-evaluate_at-loop-j : goal.invariant-evaluate_at-loop-j
invariant-evaluate_at-loop-j l = Walking l.inside (seen l.t) l.p l.row l.left l.first

abbrev pub decreases-evaluate_at-loop-j : goal.decreases-evaluate_at-loop-j
decreases-evaluate_at-loop-j l = to_come l.first
