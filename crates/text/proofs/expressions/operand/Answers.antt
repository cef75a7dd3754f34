use Rattle.text.proofs.DoesLaws.{does-stopped}
use Rattle.text.proofs.OperandCode.{operand-named, operand-other}
use Rattle.text.proofs.expressions.operand.Goals as goal

pub returns-then-r-ne0-clause-piece : goal.returns-then-r-ne0-clause-piece
returns-then-r-ne0-clause-piece c =
    λ h. does-stopped c.if-r-ne0.true

pub returns-then-r-eq-NAME-clause-piece : goal.returns-then-r-eq-NAME-clause-piece
returns-then-r-eq-NAME-clause-piece c =
    λ h. operand-named c.args.text.now c.args.in_c h c.if-r-eq-NAME.true (c.path_or_same.ensures.piece h)

pub returns-clause-piece : goal.returns-clause-piece
returns-clause-piece c =
    λ h. operand-other c.args.text.now c.args.in_c h c.if-r-eq-NAME.false (c.literal.ensures.piece h)
