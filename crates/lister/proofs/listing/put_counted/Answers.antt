use Rattle.lister.specs.Listing.{counted_line}
use Rattle.lister.proofs.BufferLaws.{then}
use Rattle.lister.proofs.listing.put_counted.Goals as goal

pub returns : goal.returns
unfolding counted_line
returns c = then (then c.put-index.ensures c.put_natural-equals.ensures) c.put_named.ensures
