use Rattle.tables.specs.Lending.{seen}
use Rattle.tables.specs.declared.Sort.TheVariants.{Values}
use Rattle.rules.specs.Start.{values_hold}
use Rattle.run.proofs.BeginLaws.{KeptLeft}
use Rattle.run.proofs.start.values_hold.Given as goal

abbrev pub invariant-loop-i : goal.invariant-loop-i
invariant-loop-i l = KeptLeft Values (values_hold l.program (seen l.t)) l.t.constraints.now l.n l.i
