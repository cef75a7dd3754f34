use Rattle.lister.proofs.BufferLaws.{then}
use Rattle.typed.proofs.put_refusal.Goals as goal

pub returns : goal.returns
returns c = then c.put_named-to.ensures c.put_named.ensures
