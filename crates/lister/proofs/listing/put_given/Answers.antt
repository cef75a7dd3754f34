use Rattle.lister.specs.Listing.{given_text}
use Rattle.lister.proofs.BufferLaws.{then}
use Rattle.lister.proofs.listing.put_given.Goals as goal

pub returns : goal.returns
unfolding given_text
returns c = then (then c.put-value.ensures c.put_value-end.ensures) c.put.ensures
