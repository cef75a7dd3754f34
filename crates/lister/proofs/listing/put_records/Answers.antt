use native.Mathlib.Omega.{arith}
use mathlib.Core.Path.{ap, ◌∙◌}
use Rattle.lister.specs.Listing.{counted_line, record_text}
use Rattle.lister.proofs.BufferLaws.{then, puts-as}
use Rattle.lister.proofs.ListingLaws.{each-starts, each-goes-on}
use Rattle.lister.proofs.listing.put_records.Goals as goal

pub loop-r-init : goal.loop-r-init
loop-r-init c = each-starts

pub loop-r-preserved : goal.loop-r-preserved
unfolding record_text
loop-r-preserved c = each-goes-on c.loop-r.invariant (omega (arith, c.loop-r-test.true, c.shown_records-n.ensures)) (then (puts-as (ap (λ n. counted_line 114 c.loop-r.r n) c.field_count.ensures) c.put_counted-fields.ensures) c.put_fields-to.ensures) (c.put_fields-to.auto.out ∙ c.put_counted-fields.auto.out)
