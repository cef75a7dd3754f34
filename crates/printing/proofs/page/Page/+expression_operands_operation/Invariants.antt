use Prim.Native.Nat.{◌+◌, ◌*◌}
use Rattle.printing.proofs.page.Page.+expression_operands_operation.Given as goal

abbrev pub decreases-expression : goal.decreases-expression
decreases-expression l = 3 * l.d

abbrev pub decreases-operands : goal.decreases-operands
decreases-operands l = 3 * l.d + 1

abbrev pub decreases-operation : goal.decreases-operation
decreases-operation l = 3 * l.d + 2
