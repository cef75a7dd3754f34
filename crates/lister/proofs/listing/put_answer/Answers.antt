use Rattle.lister.specs.Listing.{answer_text}
use Rattle.lister.proofs.BufferLaws.{then}
use Rattle.lister.proofs.listing.put_answer.Goals as goal

pub returns : goal.returns
unfolding answer_text
returns c = then (then (then c.put_named-first.ensures c.put_named-second.ensures) c.put_named-third.ensures) c.put_named.ensures
