use lib.IntN.{pos}
use lib.ListN.{replicate}
use Rattle.entries.proofs.LaidLaws.{laid_from}
use Rattle.entries.proofs.whole.enter.Goals as goal

pub returns-clause-goes : goal.returns-clause-goes
returns-clause-goes c = rw (laid_from c.args.p.now c.args.n (replicate 12 (pos 0)) c.requires.n_in_bounds c.requires.n_bound c.store.ensures c.copy.ensures c.part_to.ensures) at (c.stepped_on.ensures.steps.goes c.requires.begins)
