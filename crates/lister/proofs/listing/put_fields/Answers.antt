use native.Mathlib.Omega.{arith}
use Rattle.lister.proofs.ListingLaws.{each-starts, each-goes-on}
use Rattle.lister.proofs.listing.put_fields.Goals as goal

pub loop-f-init : goal.loop-f-init
loop-f-init c = each-starts

pub loop-f-preserved : goal.loop-f-preserved
loop-f-preserved c = each-goes-on c.loop-f.invariant (omega (arith, c.loop-f-test.true, c.field_count-n.ensures)) c.put_field-to.ensures c.put_field-to.auto.out
