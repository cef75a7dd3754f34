use Rattle.phases.specs.Told.{state_in}
use Rattle.block.proofs.RunLaws.{starts, whole_is}
use Rattle.block.proofs.run_all.Goals as goal

pub run_block-requires : goal.run_block-requires
run_block-requires c = starts c.args.proposals.now

pub returns-clause-runs : goal.returns-clause-runs
returns-clause-runs c = whole_is c.args.program.now c.args.proposals.now c.args.budget (state_in c.args.t.now) c.run_block.ensures.goes
