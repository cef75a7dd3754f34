use Rattle.words.proofs.Signed.{back32}
use Rattle.phases.specs.Told.{state_in}
use Rattle.run.proofs.WholeLaws.{meets_on, meets-end}
use Rattle.run.proofs.whole.run_begun.Goals as goal

pub returns-then-tally-eq0-clause-meets : goal.returns-then-tally-eq0-clause-meets
returns-then-tally-eq0-clause-meets c =
    meets_on c.args.program.now c.args.proposals.now c.args.budget (state_in c.args.t.now) c.requires
    (rw (rw (back32 c.args.budget c.ranges.budget) at c.number-most.ensures) at c.run_all-tally.ensures.runs) c.if-tally-eq0.true c.answer_with.ensures

pub returns-clause-meets : goal.returns-clause-meets
returns-clause-meets c =
    meets-end c.args.program.now c.args.proposals.now c.args.budget (state_in c.args.t.now) c.requires
    (rw (rw (back32 c.args.budget c.ranges.budget) at c.number-most.ensures) at c.run_all-tally.ensures.runs) c.if-tally-eq0.false c.answer_with-2.ensures
