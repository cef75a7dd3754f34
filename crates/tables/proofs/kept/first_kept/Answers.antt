use Rattle.tables.specs.Kept.{first_kept}
use Rattle.tables.proofs.kept.first_kept.Goals as goal

pub returns-in-Values : goal.returns-in-Values
unfolding first_kept
returns-in-Values c = rw c.in-Values.is

pub returns-in-Identities : goal.returns-in-Identities
unfolding first_kept
returns-in-Identities c = rw c.in-Identities.is
