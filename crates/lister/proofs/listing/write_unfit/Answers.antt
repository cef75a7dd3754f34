use Rattle.lister.specs.Listing.{unfit_text}
use Rattle.lister.proofs.ListingLaws.{listed}
use Rattle.lister.proofs.listing.write_unfit.Goals as goal

pub returns : goal.returns
unfolding unfit_text
returns c = listed c.put_named.ensures
