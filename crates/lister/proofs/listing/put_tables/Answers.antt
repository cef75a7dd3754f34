use Rattle.lister.specs.Listing.{tables_text}
use Rattle.lister.proofs.BufferLaws.{then}
use Rattle.lister.proofs.listing.put_tables.Goals as goal

pub returns : goal.returns
unfolding tables_text
returns c = then (then (then c.put_variables-records.ensures c.put_records-values.ensures) c.put_positions-identities.ensures) c.put_positions.ensures
