use mathlib.Core.Path.{◌∙◌}
use Rattle.phases.proofs.PhaseLaws.{move-takes, move-refuses}
use Rattle.phases.proofs.giving.move_class.Goals as goal

pub returns-in-Ok-clause-does : goal.returns-in-Ok-clause-does
returns-in-Ok-clause-does c =
    rw (c.settle.ensures.rest.kept ∙ c.put_class.ensures.rest.kept)
    (move-takes c.args.program.now c.args.t.now.constraints.now c.args.p.now c.args.target c.args.proposals.now (rw c.put_class.ensures.rest.kept at c.settle.ensures.settles) c.put_class.ensures.gives c.in-Ok.is)

pub returns-in-Err-clause-does : goal.returns-in-Err-clause-does
returns-in-Err-clause-does c =
    rw (c.take_back.ensures.rest.kept ∙ c.settle.ensures.rest.kept ∙ c.put_class.ensures.rest.kept)
    (move-refuses c.args.program.now c.args.t.now.constraints.now c.args.p.now c.args.target c.args.proposals.now (rw c.put_class.ensures.rest.kept at c.settle.ensures.settles) c.put_class.ensures.gives c.in-Err.is c.take_back.ensures.cells)
