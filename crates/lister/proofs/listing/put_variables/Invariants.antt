use Rattle.tables.specs.Cells.{cells}
use Rattle.lister.specs.Listing.{variable_text}
use Rattle.lister.proofs.ListingLaws.{Each}
use Rattle.lister.proofs.listing.put_variables.Given as goal

abbrev pub invariant-loop-x : goal.invariant-loop-x
invariant-loop-x l = Each (variable_text (cells l.environment l.heap)) 64 l.initial.out l.at l.out l.to l.x
