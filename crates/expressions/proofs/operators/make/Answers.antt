use mathlib.Core.Path.{ap, ◌∙◌}
use lib.IntN.{◌+ℤ◌, ◌-ℤ◌, ◌*ℤ◌}
use Rattle.words.proofs.Signed.{back32}
use Rattle.rules.specs.Evaluation.{int_of}
use Rattle.rules.proofs.OperatorClauses.{plus-makes, minus-makes, times-makes}
use Rattle.expressions.specs.Told.{ranged_of}
use Rattle.expressions.proofs.OperatorLaws.{range-is}
use Rattle.expressions.proofs.operators.make.Goals as goal

pub returns-in-Plus : goal.returns-in-Plus
returns-in-Plus c =
    let x = back32 c.int_of.result (record { sfits = c.int_of.type_inv }) in
    let y = back32 c.int_of-in-Plus.result (record { sfits = c.int_of-in-Plus.type_inv }) in
    let e = rw (x, y, c.int_of.ensures, c.int_of-in-Plus.ensures) at c.plus.ensures in
    rw (c.in-Plus.is, plus-makes c.args.a c.args.b) (c.in_range.ensures ∙ ap ranged_of e ∙ range-is (◌+ℤ◌ (int_of c.args.a) (int_of c.args.b)))

pub returns-in-Minus : goal.returns-in-Minus
returns-in-Minus c =
    let x = back32 c.int_of-in-Minus.result (record { sfits = c.int_of-in-Minus.type_inv }) in
    let y = back32 c.int_of-in-Minus-2.result (record { sfits = c.int_of-in-Minus-2.type_inv }) in
    let e = rw (x, y, c.int_of-in-Minus.ensures, c.int_of-in-Minus-2.ensures) at c.minus.ensures in
    rw (c.in-Minus.is, minus-makes c.args.a c.args.b) (c.in_range-in-Minus.ensures ∙ ap ranged_of e ∙ range-is (◌-ℤ◌ (int_of c.args.a) (int_of c.args.b)))

pub returns-in-Times : goal.returns-in-Times
returns-in-Times c =
    let x = back32 c.int_of-in-Times.result (record { sfits = c.int_of-in-Times.type_inv }) in
    let y = back32 c.int_of-in-Times-2.result (record { sfits = c.int_of-in-Times-2.type_inv }) in
    let e = rw (x, y, c.int_of-in-Times.ensures, c.int_of-in-Times-2.ensures) at c.times.ensures in
    rw (c.in-Times.is, times-makes c.args.a c.args.b) (c.in_range-in-Times.ensures ∙ ap ranged_of e ∙ range-is (◌*ℤ◌ (int_of c.args.a) (int_of c.args.b)))
