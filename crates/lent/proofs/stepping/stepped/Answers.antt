use Rattle.std.proofs.Common.{arith}
use Rattle.lent.proofs.LentLaws.{stays-so, steps-so}
use Rattle.lent.proofs.stepping.stepped.Goals as goal

pub returns-then-tally-ne0-clause-steps : goal.returns-then-tally-ne0-clause-steps
returns-then-tally-ne0-clause-steps c = stays-so (λ b. c.if-tally-ne0.true b.going)

pub returns-then-tally-ne0-2-clause-steps : goal.returns-then-tally-ne0-2-clause-steps
returns-then-tally-ne0-2-clause-steps c = stays-so (λ b. c.if-tally-ne0-2.true b.nowhere)

pub returns-then-tally-clause-steps : goal.returns-then-tally-clause-steps
returns-then-tally-clause-steps c = stays-so (λ b. omega (arith, b.few, c.if-tally.true))

pub returns-then-proposals-tally-clause-steps : goal.returns-then-proposals-tally-clause-steps
returns-then-proposals-tally-clause-steps c = stays-so (λ b. omega (arith, b.inside, c.if-proposals-tally.true))

pub begun-requires : goal.begun-requires
begun-requires c = record { few = c.if-tally.false; inside = c.if-proposals-tally.false; going = omega (arith, c.if-tally-ne0.false); nowhere = omega (arith, c.if-tally-ne0-2.false) }

pub returns-clause-steps : goal.returns-clause-steps
returns-clause-steps c =
    steps-so (record { few = c.if-tally.false; inside = c.if-proposals-tally.false; going = omega (arith, c.if-tally-ne0.false); nowhere = omega (arith, c.if-tally-ne0-2.false) })
    c.begun.ensures.goes
