use Rattle.std.proofs.Common.{rules}
use Rattle.tables.proofs.ClearLaws.{clearing-starts, clearing-goes-on, clearing-ends}
use Rattle.tables.proofs.cells.is_clear.Goals as goal

pub loop-w-init : goal.loop-w-init
loop-w-init c = clearing-starts

pub loop-w-preserved : goal.loop-w-preserved
loop-w-preserved c = clearing-goes-on c.loop-w.invariant c.loop-w-test.true (search rules)

pub returns : goal.returns
returns c = clearing-ends c.loop-w.invariant c.loop-w-test.false
