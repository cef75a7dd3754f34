use Rattle.lister.specs.Listing.{record_text, shown_records}
use Rattle.lister.proofs.ListingLaws.{Each}
use Rattle.lister.proofs.listing.put_records.Given as goal

abbrev pub invariant-loop-r : goal.invariant-loop-r
invariant-loop-r l = Each (record_text l.heap) (shown_records l.heap) l.initial.out l.at l.out l.to l.r
