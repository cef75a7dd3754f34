use Rattle.tables.specs.Lending.{seen}
use Rattle.phases.specs.Tying.{tie_no}
use Rattle.phases.proofs.WalkLaws.{WalkingOn, walks_left}
use Rattle.phases.proofs.classes.pass_on.Given as goal

abbrev pub invariant-loop-due : goal.invariant-loop-due
invariant-loop-due l = WalkingOn (tie_no l.program l.t.constraints.now (seen l.t)) l.n l.again l.initial.class l.class l.due

abbrev pub decreases-loop-due : goal.decreases-loop-due
decreases-loop-due l = walks_left (tie_no l.program l.t.constraints.now (seen l.t)) l.n l.due l.class
