use mathlib.Core.Path.{sym, ◌∙◌}
use Rattle.phases.specs.Told.{state_in}
use Rattle.entries.proofs.ReadLaws.{entry-reads}
use Rattle.block.proofs.RunLaws.{lent-then}
use Rattle.entries.proofs.ListLaws.{starts, ends-all, ends-unfit, fewer, inside-it, short-it, ends-refused, goes_on}
use Rattle.entries.proofs.whole.enter_all.Goals as goal

pub loop-left-init : goal.loop-left-init
loop-left-init c = starts c.args.program.now c.args.entries.now c.args.proposals.now c.args.budget c.args.t.now

pub returns-in_default : goal.returns-in_default
returns-in_default c =
    record {
      given = ends-unfit c.loop-left.invariant c.part_last-p.ensures c.loop-left-test.true (sym c.in_default.is ∙ c.read_entry.ensures) c.ended.ensures;
      lent = c.loop-left.invariant.lent;
    }

pub enter-u-requires : goal.enter-u-requires
enter-u-requires c =
    let x = entry-reads _ (sym c.in-Ok.is ∙ c.read_entry.ensures) in
    rw c.less.ensures
    (record {
      begins = c.loop-left.invariant.begins;
      n_in_bounds = inside-it c.loop-left.invariant c.part_last-p.ensures c.loop-left-test.true x;
      n_bound = short-it c.loop-left.invariant c.part_last-p.ensures c.loop-left-test.true x;
    })

pub returns-then-u-ne0 : goal.returns-then-u-ne0
returns-then-u-ne0 c =
    let x = entry-reads _ (sym c.in-Ok.is ∙ c.read_entry.ensures) in
    record {
      given = ends-refused c.loop-left.invariant c.part_last-p.ensures c.loop-left-test.true x {Y = state_in c.enter-u.new.t} (rw c.less.ensures at c.enter-u.ensures.goes) c.if-u-ne0.true c.ended-then-u-ne0.ensures;
      lent = lent-then c.loop-left.invariant.lent c.enter-u.ensures.lent;
    }

pub loop-left-smaller : goal.loop-left-smaller
loop-left-smaller c =
    fewer c.loop-left.invariant c.part_last-p.ensures c.loop-left-test.true (entry-reads _ (sym c.in-Ok.is ∙ c.read_entry.ensures))

pub loop-left-preserved : goal.loop-left-preserved
loop-left-preserved c =
    let x = entry-reads _ (sym c.in-Ok.is ∙ c.read_entry.ensures) in
    goes_on c.loop-left.invariant c.part_last-p.ensures c.loop-left-test.true x (rw c.less.ensures at c.enter-u.ensures.goes) c.if-u-ne0.false c.enter-u.ensures.lent

pub returns : goal.returns
returns c = record { given = ends-all c.loop-left.invariant c.loop-left-test.false c.ended-2.ensures; lent = c.loop-left.invariant.lent }
