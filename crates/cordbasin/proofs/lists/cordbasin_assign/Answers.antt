use mathlib.Core.Path.{ap}
use lib.ListN.{length}
use Rattle.words.proofs.Signed.{back32}
use Rattle.cordbasin.proofs.lists.cordbasin_assign.Goals as goal

-- src/lists.rt:7:1
pub returns : goal.returns
returns c =
    let r = rw (back32 c.args.budget c.ranges.budget) at c.assign-unread.ensures in
    record { answers = r.answers; leaves = r.leaves; counts = ap length r.hands_back }
