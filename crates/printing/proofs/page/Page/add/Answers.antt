use Rattle.printing.proofs.PageLaws.{added_none, adding-goes-on}
use Rattle.printing.proofs.page.Page.add.Goals as goal

pub loop-b-init : goal.loop-b-init
loop-b-init c = added_none

pub loop-b-preserved : goal.loop-b-preserved
loop-b-preserved c = adding-goes-on c.args.s.now c.loop-b.b-index c.loop-b-test.true c.loop-b.invariant c.put.ensures
