use Rattle.tables.specs.Records.{record_count}
use Rattle.tables.proofs.records.record_count.Goals as goal

pub returns : goal.returns
unfolding record_count
returns c = c.number_at.ensures
