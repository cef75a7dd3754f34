use Rattle.tables.specs.Lending.{seen}
use Rattle.phases.specs.Tying.{tie_no}
use Rattle.phases.proofs.WalkLaws.{Walking}
use Rattle.phases.proofs.classes.pass.Given as goal

abbrev pub invariant-loop-i : goal.invariant-loop-i
invariant-loop-i l = Walking (tie_no l.program l.t.constraints.now (seen l.t)) l.n l.back l.target l.initial.class l.class l.names l.again l.apart l.i
