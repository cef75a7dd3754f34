use Rattle.tables.specs.Kept.{kept_number}
use Rattle.tables.proofs.kept.count_at.Goals as goal

pub returns : goal.returns
unfolding kept_number
returns c = rw c.kept_word.ensures at c.number_at.ensures
