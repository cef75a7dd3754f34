use Rattle.words.specs.Bits.{marked}
use Rattle.tables.specs.Lending.{seen}
use Rattle.phases.specs.Tying.{identity_at}
use Rattle.phases.proofs.FreeLaws.{freeing-ties-fails, freeing-ties-goes-on, freeing-ties-ends}
use Rattle.phases.proofs.classes.is_clash_free.Goals as goal

pub returns-then-not-is_tie_free : goal.returns-then-not-is_tie_free
returns-then-not-is_tie_free c = freeing-ties-fails (seen c.args.t.now) (marked c.args.class.now) c.args.v (identity_at c.args.program.now c.args.t.now.constraints.now) c.args.n c.loop-i.invariant c.loop-i-test.true c.identity_at-p.ensures c.is_tie_free.ensures c.if-not-is_tie_free.true

pub loop-i-preserved : goal.loop-i-preserved
loop-i-preserved c = freeing-ties-goes-on (seen c.args.t.now) (marked c.args.class.now) c.args.v (identity_at c.args.program.now c.args.t.now.constraints.now) c.args.n c.loop-i.invariant c.loop-i-test.true c.identity_at-p.ensures c.is_tie_free.ensures c.if-not-is_tie_free.false

pub returns : goal.returns
returns c = freeing-ties-ends (seen c.args.t.now) (marked c.args.class.now) c.args.v (identity_at c.args.program.now c.args.t.now.constraints.now) c.args.n c.loop-i.invariant c.loop-i-test.false
