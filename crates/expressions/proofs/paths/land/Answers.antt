use Rattle.expressions.proofs.PathLaws.{landing-starts, landing-lost, landing-goes-on, landing-ends}
use Rattle.expressions.proofs.paths.land.Goals as goal

pub loop-i-init : goal.loop-i-init
loop-i-init c = landing-starts

pub returns-in_err-at : goal.returns-in_err-at
returns-in_err-at c = rw c.from_residual.ensures (landing-lost c.loop-i.invariant c.loop-i-test.true (rw c.number_at.ensures at c.step.ensures) c.in_err-at.was)

pub loop-i-preserved : goal.loop-i-preserved
loop-i-preserved c = landing-goes-on c.loop-i.invariant c.loop-i-test.true (rw c.number_at.ensures at c.step.ensures) c.in_ok-at.was

pub returns : goal.returns
returns c = landing-ends c.loop-i.invariant c.loop-i-test.false
