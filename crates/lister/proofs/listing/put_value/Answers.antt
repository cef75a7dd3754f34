use Rattle.std.proofs.Common.{rules}
use mir.Syntax.{w32}
use mir.Val.{SFits}
use Rattle.lister.proofs.ListingLaws.{put-int, put-ref}
use Rattle.lister.proofs.listing.put_value.Goals as goal

pub returns-in-Int : goal.returns-in-Int
returns-in-Int c = let f : SFits w32 c.in-Int.n = search rules in put-int c.in-Int.is f.sfits c.put_all-to.ensures c.put_number.ensures

pub returns-in-Ref : goal.returns-in-Ref
returns-in-Ref c = put-ref c.in-Ref.is c.put_all-to-in-Ref.ensures c.put_natural.ensures
