use Rattle.tables.specs.Records.{field_count}
use Rattle.lister.specs.Listing.{field_text}
use Rattle.lister.proofs.ListingLaws.{Each}
use Rattle.lister.proofs.listing.put_fields.Given as goal

abbrev pub invariant-loop-f : goal.invariant-loop-f
invariant-loop-f l = Each (field_text l.heap l.r) (field_count l.heap l.r) l.initial.out l.at l.out l.to l.f
