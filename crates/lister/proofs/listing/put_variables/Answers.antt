use Rattle.lister.proofs.ListingLaws.{each-starts, each-goes-on}
use Rattle.lister.proofs.listing.put_variables.Goals as goal

pub loop-x-init : goal.loop-x-init
loop-x-init c = each-starts

pub loop-x-preserved : goal.loop-x-preserved
loop-x-preserved c = each-goes-on c.loop-x.invariant c.loop-x-test.true c.put_variable-to.ensures c.put_variable-to.auto.out
