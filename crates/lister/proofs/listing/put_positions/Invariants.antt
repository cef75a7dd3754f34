use Rattle.tables.specs.Kept.{kept_count, position_at}
use Rattle.lister.specs.Listing.{counted_line}
use Rattle.lister.proofs.ListingLaws.{Each}
use Rattle.lister.proofs.listing.put_positions.Given as goal

abbrev pub invariant-loop-i : goal.invariant-loop-i
invariant-loop-i l = Each (λ j. counted_line l.letter j (position_at l.constraints l.s j)) (kept_count l.constraints l.s) l.initial.out l.at l.out l.to l.i
