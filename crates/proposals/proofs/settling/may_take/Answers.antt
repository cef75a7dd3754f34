use Rattle.std.proofs.Common.{rules, arith, ap, ◌∙◌, pos}
use borrow.Author.Tests.{eq-eqb, ne_eqb}
use Rattle.words.specs.Words.{number_of}
use Rattle.words.proofs.Signed.{back32, same_bits}
use Rattle.proposals.proofs.ProposalLaws.{take_same, take-bit, take-integer}
use Rattle.proposals.proofs.settling.may_take.Goals as goal

pub returns-then-w-c : goal.returns-then-w-c
returns-then-w-c c =
    let a = c.args in
    take_same a.c a.w (same_bits a.w a.c.payload c.ranges.w (search rules)) (eq-eqb _ _ c.if-w-c.true)

pub returns-then-kind-eq2 : goal.returns-then-kind-eq2
returns-then-kind-eq2 c =
    let a = c.args in
    take-bit a.c a.w (same_bits a.w a.c.payload c.ranges.w (search rules)) (ne_eqb _ _ c.if-w-c.false)
    (c.number-kind.ensures ∙ ap number_of (back32 a.c.kind (search rules))) c.if-kind-eq2.true
    (same_bits a.w (pos 0) c.ranges.w (record { sfits = omega arith })) (same_bits a.w (pos 1) c.ranges.w (record { sfits = omega arith }))

pub returns : goal.returns
returns c =
    let a = c.args in
    take-integer a.c a.w (same_bits a.w a.c.payload c.ranges.w (search rules)) (ne_eqb _ _ c.if-w-c.false)
    (c.number-kind.ensures ∙ ap number_of (back32 a.c.kind (search rules))) c.if-kind-eq2.false
