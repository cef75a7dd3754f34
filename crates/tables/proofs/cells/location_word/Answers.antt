use Rattle.tables.specs.Sizes.{field_word}
use Rattle.tables.specs.Cells.{location_word}
use Rattle.tables.proofs.cells.location_word.Goals as goal

pub returns : goal.returns
unfolding location_word field_word
returns c = rw c.less-k.ensures
