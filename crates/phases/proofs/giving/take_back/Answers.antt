use native.Mathlib.Omega.{arith}
use Prim.Native.Nat.{◌+◌}
use borrow.Author.Rules.{rules}
use Rattle.words.proofs.BitLaws.{next-least}
use Rattle.phases.proofs.PutLaws.{taking-starts, taking-goes-on, taking-ends}
use Rattle.phases.proofs.giving.take_back.Goals as goal

pub loop-at-init : goal.loop-at-init
loop-at-init c = record { takes = taking-starts (search rules) c.next_marked-at.ensures; rest = search rules }

pub loop-at-smaller : goal.loop-at-smaller
loop-at-smaller c = omega (arith, c.next_marked-at-in-loop-at.ensures, next-least c.args.class.now (c.loop-at.at + 1), c.loop-at-test.true)

pub loop-at-preserved : goal.loop-at-preserved
loop-at-preserved c = record {
  takes = taking-goes-on c.loop-at.invariant.takes c.loop-at-test.true (search rules) c.pair_at.ensures c.put.ensures.cells c.next_marked-at-in-loop-at.ensures;
  rest = search rules;
}

pub returns-clause-cells : goal.returns-clause-cells
returns-clause-cells c = taking-ends c.loop-at.invariant.takes c.loop-at-test.false
