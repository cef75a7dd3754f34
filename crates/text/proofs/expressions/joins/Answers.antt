use Prim.Native.Nat.{◌-◌}
use native.Mathlib.Omega.{arith}
use borrow.Author.Tests.{lt-ltb, le-leb}
use Rattle.text.proofs.ExpressionLaws.{level-some}
use Rattle.text.proofs.expressions.joins.Goals as goal

pub returns-then-brackets-gt0 : goal.returns-then-brackets-gt0
returns-then-brackets-gt0 c =
    let a = c.args in
    rw (lt-ltb 0 a.brackets c.if-brackets-gt0.true, le-leb 41 a.code (omega (arith, c.in-41-to-51)), le-leb a.code 51 (omega (arith, c.in-41-to-51)), ← level-some (a.code - 40))
