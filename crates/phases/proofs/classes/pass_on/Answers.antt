use Rattle.phases.proofs.WalkLaws.{never-lost, walking-on-goes-on, walking-on-less}
use Rattle.phases.proofs.classes.pass_on.Goals as goal

pub returns-in_default : goal.returns-in_default
returns-in_default c = never-lost c.pass.ensures c.requires.leads c.in_default.is

pub loop-due-smaller : goal.loop-due-smaller
loop-due-smaller c = walking-on-less c.loop-due.invariant c.pass.ensures c.in-Ok.is c.loop-due-test.true

pub loop-due-preserved : goal.loop-due-preserved
loop-due-preserved c = walking-on-goes-on c.loop-due.invariant c.pass.ensures c.in-Ok.is
