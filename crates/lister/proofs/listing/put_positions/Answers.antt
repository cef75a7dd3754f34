use native.Mathlib.Omega.{arith}
use mathlib.Core.Path.{ap}
use Rattle.lister.proofs.BufferLaws.{puts-as}
use Rattle.lister.specs.Listing.{counted_line}
use Rattle.lister.proofs.ListingLaws.{each-starts, each-goes-on}
use Rattle.lister.proofs.listing.put_positions.Goals as goal

pub loop-i-init : goal.loop-i-init
loop-i-init c = each-starts

pub loop-i-preserved : goal.loop-i-preserved
loop-i-preserved c = each-goes-on c.loop-i.invariant (omega (arith, c.loop-i-test.true, c.kept_count-n.ensures)) (puts-as (ap (λ p. counted_line c.args.letter c.loop-i.i p) c.position_at-position.ensures) c.put_counted-to.ensures) c.put_counted-to.auto.out
