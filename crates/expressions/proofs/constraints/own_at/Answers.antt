use Rattle.std.proofs.Common.{◌∙◌}
use Rattle.tables.specs.Lending.{seen}
use Rattle.expressions.proofs.ConstraintLaws.{own-absent, own-there}
use Rattle.expressions.proofs.constraints.own_at.Goals as goal

pub returns-in-Some : goal.returns-in-Some
returns-in-Some c = rw c.in-Some.is (c.constraint_at.ensures ∙ own-there (seen c.args.t.now) c.in-Some.p.now)

pub returns-in-None : goal.returns-in-None
returns-in-None c = rw c.in-None.is (own-absent (seen c.args.t.now))
