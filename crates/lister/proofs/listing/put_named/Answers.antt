use Rattle.lister.specs.Listing.{named_line}
use Rattle.lister.proofs.BufferLaws.{then}
use Rattle.lister.proofs.listing.put_named.Goals as goal

pub returns : goal.returns
unfolding named_line
returns c = then (then c.put_all-number.ensures c.put_natural-end.ensures) c.put.ensures
