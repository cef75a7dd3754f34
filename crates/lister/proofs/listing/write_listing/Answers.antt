use Rattle.lister.specs.Listing.{listing}
use Rattle.lister.proofs.BufferLaws.{then}
use Rattle.lister.proofs.ListingLaws.{listed}
use Rattle.lister.proofs.listing.write_listing.Goals as goal

pub returns : goal.returns
unfolding listing
returns c = listed (then c.put_answer-at.ensures c.put_tables.ensures)
