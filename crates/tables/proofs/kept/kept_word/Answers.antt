use Rattle.tables.specs.Kept.{kept_word}
use Rattle.tables.proofs.kept.kept_word.Goals as goal

pub returns-in-Values : goal.returns-in-Values
unfolding kept_word
returns-in-Values c = rw c.in-Values.is

pub returns-in-Identities : goal.returns-in-Identities
unfolding kept_word
returns-in-Identities c = rw c.in-Identities.is
