use native.Mathlib.Omega.{arith}
use Rattle.text.proofs.DoesLaws.{does-stopped}
use Rattle.text.proofs.LiteralCode.{literal-nil, literal-false, literal-true, literal-number, literal-none}
use Rattle.text.proofs.AheadLaws.{ahead-refused}
use Rattle.text.proofs.expressions.literal.Goals as goal

pub returns-then-r-ne0-clause-piece : goal.returns-then-r-ne0-clause-piece
returns-then-r-ne0-clause-piece c = λ h. does-stopped c.if-r-ne0.true

pub returns-in-24-clause-piece : goal.returns-in-24-clause-piece
returns-in-24-clause-piece c = λ h. literal-nil c.args.text.now c.args.r.now.lent.names h c.in-24.is (c.constant.ensures.piece h)

pub returns-in-23-clause-piece : goal.returns-in-23-clause-piece
returns-in-23-clause-piece c = λ h. literal-false c.args.text.now c.args.r.now.lent.names h c.in-23.is (c.constant-in-23.ensures.piece h)

pub returns-in-22-clause-piece : goal.returns-in-22-clause-piece
returns-in-22-clause-piece c = λ h. literal-true c.args.text.now c.args.r.now.lent.names h c.in-22.is (c.constant-in-22.ensures.piece h)

pub returns-in-2-clause-piece : goal.returns-in-2-clause-piece
returns-in-2-clause-piece c = λ h. literal-number c.args.text.now c.args.r.now.lent.names h c.in-2.is (c.number.ensures.piece h)

pub returns-in_default-clause-piece : goal.returns-in_default-clause-piece
returns-in_default-clause-piece c =
    λ h.
    literal-none c.args.text.now c.args.r.now.lent.names h c.if-r-ne0.false (λ e. omega (arith, c.in_default, e)) (λ e. omega (arith, c.in_default, e)) (λ e. omega (arith, c.in_default, e)) (λ e. omega (arith, c.in_default, e)) c.refused.ensures

pub returns-in_default-clause-ahead : goal.returns-in_default-clause-ahead
returns-in_default-clause-ahead c = λ h. ahead-refused c.args.text.now c.args.r.now.carried c.refused.ensures h
