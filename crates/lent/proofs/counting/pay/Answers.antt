use borrow.Author.Tests.{lt-ltb, le-ltb}
use Rattle.lent.proofs.counting.pay.Goals as goal

-- src/counting.rt:26:9
pub returns-then-budget-t : goal.returns-then-budget-t
returns-then-budget-t c = rw (le-ltb _ _ c.if-budget-t.true) c.ended.ensures

-- src/counting.rt:22:1
pub returns : goal.returns
returns c = rw (lt-ltb _ _ c.if-budget-t.false)
