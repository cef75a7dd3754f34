use native.Mathlib.Omega.{arith}
use Prim.Native.Nat.{◌+◌}
use borrow.Author.Rules.{rules}
use Rattle.words.proofs.BitLaws.{next-least}
use Rattle.phases.proofs.PutLaws.{giving-starts, giving-goes-on, giving-ends}
use Rattle.phases.proofs.giving.put_class.Goals as goal

pub loop-l-init : goal.loop-l-init
loop-l-init c = record { gives = giving-starts (search rules) c.next_marked-l.ensures; rest = search rules }

pub loop-l-smaller : goal.loop-l-smaller
loop-l-smaller c = omega (arith, c.next_marked-l-in-loop-l.ensures, next-least c.args.class.now (c.loop-l.l + 1), c.loop-l-test.true)

pub loop-l-preserved : goal.loop-l-preserved
loop-l-preserved c = record {
  gives = giving-goes-on c.loop-l.invariant.gives c.loop-l-test.true (search rules) c.requires (rw c.view.ensures.cells at c.cell.ensures) c.lay_by.ensures c.cell_of.ensures c.put.ensures.cells c.next_marked-l-in-loop-l.ensures;
  rest = search rules;
}

pub returns-clause-gives : goal.returns-clause-gives
returns-clause-gives c = giving-ends c.loop-l.invariant.gives c.loop-l-test.false
