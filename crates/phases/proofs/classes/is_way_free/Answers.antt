use mathlib.Core.Path.{◌∙◌}
use Rattle.words.specs.Bits.{marked}
use Rattle.tables.specs.Lending.{seen}
use Rattle.phases.proofs.FreeLaws.{freeing-fails, freeing-last, freeing-lost, freeing-goes-on, freeing-ends}
use Rattle.phases.proofs.classes.is_way_free.Goals as goal

pub returns-then-not-may_take : goal.returns-then-not-may_take
returns-then-not-may_take c = freeing-fails (seen c.args.t.now) (marked c.args.class.now) c.args.v c.loop-i.invariant (rw c.number_at-n.ensures at c.loop-i-test.true) c.may_take.ensures c.if-not-may_take.true

pub returns-then-i-n : goal.returns-then-i-n
returns-then-i-n c = freeing-last (seen c.args.t.now) (marked c.args.class.now) c.args.v c.loop-i.invariant (rw c.number_at-n.ensures at c.loop-i-test.true) c.may_take.ensures c.if-not-may_take.false (c.if-i-n.true ∙ c.number_at-n.ensures)

pub returns-in_default : goal.returns-in_default
returns-in_default c = freeing-lost (seen c.args.t.now) (marked c.args.class.now) c.args.v c.loop-i.invariant (rw c.number_at-n.ensures at c.loop-i-test.true) c.may_take.ensures c.if-not-may_take.false c.part_from-labels.ensures c.number_at.ensures c.step.ensures c.in_default.is

pub loop-i-preserved : goal.loop-i-preserved
loop-i-preserved c = freeing-goes-on (seen c.args.t.now) (marked c.args.class.now) c.args.v c.loop-i.invariant (rw c.number_at-n.ensures at c.loop-i-test.true) c.may_take.ensures c.if-not-may_take.false c.part_from-labels.ensures c.number_at.ensures c.step.ensures c.in-Some.is

pub returns : goal.returns
returns c = freeing-ends (seen c.args.t.now) (marked c.args.class.now) c.args.v c.loop-i.invariant (rw c.number_at-n.ensures at c.loop-i-test.false)
