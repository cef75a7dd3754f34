use Rattle.statements.proofs.simple.alone.Goals as goal

pub returns-clause-does : goal.returns-clause-does
returns-clause-does c = rw (c.from.ensures, c.number_at.ensures, c.part_from-p.ensures) at c.simple_at.ensures.does
